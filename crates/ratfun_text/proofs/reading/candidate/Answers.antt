use Rattle.std.proofs.Common.{◌≡◌, ◌∙◌, List, ℕ, true, false, Some, sym, ap, subst}
use Rattle.poly_maps.specs.Fraction.{LeadsWithOne}
use Rattle.poly_maps.specs.declared.fraction.Frac.{Frac}
use Rattle.ratfun_text.proofs.ReadBack.{readable, some_same, none_some, built}
use Rattle.ratfun_text.proofs.reading.candidate.Goals as goal

pub returns-in_default-clause-read : goal.returns-in_default-clause-read
returns-in_default-clause-read c = λ q m i s is.
    let r = readable c.args.names.now q c.args.text.now c.requires m i s is in
    absurd (none_some c.in_ok-num.field-0 q.num c.in_default.is (c.in_ok-num.ensures.read q.num m.num r.num_terms (c.parts.ensures.num ∙ r.num)))

pub returns-in_default-2-clause-read : goal.returns-in_default-2-clause-read
returns-in_default-2-clause-read c = λ q m i s is.
    let r = readable c.args.names.now q c.args.text.now c.requires m i s is in
    absurd (none_some c.in_ok-den.field-0 q.den c.in_default-2.is (c.in_ok-den.ensures.read q.den m.den r.den_terms (c.parts.ensures.den ∙ r.den)))

pub returns-then-not-leads_with_one-clause-read : goal.returns-then-not-leads_with_one-clause-read
returns-then-not-leads_with_one-clause-read c = λ q m i s is.
    let r = readable c.args.names.now q c.args.text.now c.requires m i s is in
    let den : c.in-Some-2.den ≡ q.den = some_same c.in_ok-den.field-0 c.in-Some-2.den q.den c.in-Some-2.is (c.in_ok-den.ensures.read q.den m.den r.den_terms (c.parts.ensures.den ∙ r.den)) in
    let leads : LeadsWithOne c.terms.result.now = subst (λ (d : List (List ℕ × Frac)). LeadsWithOne d) (sym (c.terms.ensures.same ∙ den)) m.leads in
    let yes : c.leads_with_one.result ≡ true = c.leads_with_one.ensures.1 leads in
    let wrong : true ≡ false = sym yes ∙ c.if-not-leads_with_one.true in
    cc

pub returns-clause-read : goal.returns-clause-read
returns-clause-read c = λ q m i s is.
    let r = readable c.args.names.now q c.args.text.now c.requires m i s is in
    let num : c.in-Some.num ≡ q.num = some_same c.in_ok-num.field-0 c.in-Some.num q.num c.in-Some.is (c.in_ok-num.ensures.read q.num m.num r.num_terms (c.parts.ensures.num ∙ r.num)) in
    let den : c.in-Some-2.den ≡ q.den = some_same c.in_ok-den.field-0 c.in-Some-2.den q.den c.in-Some-2.is (c.in_ok-den.ensures.read q.den m.den r.den_terms (c.parts.ensures.den ∙ r.den)) in
    ap (λ x. Some x) (c.new.ensures.parts ∙ built q c.in-Some.num c.in-Some-2.den num den)
