use Rattle.std.proofs.Common.{◌≡◌, ◌≢◌, ◌++◌, ◌∙◌, [], ◌∷◌, true, false, sym, ap, bytes_eq}
use Rattle.std.proofs.lemmas.Slice.Eq.{bytes_eq-Decides}
use Rattle.ratfun_text.specs.Reading.{before, behind, begins_with_byte, term_in, unsigned}
use Rattle.ratfun_text.proofs.ReadBack.{zero_terms, inside_next, terms_read}
use Rattle.ratfun_text.proofs.reading.terms_in.Goals as goal

pub returns-then-eq-clause-read : goal.returns-then-eq-clause-read
returns-then-eq-clause-read c =
    let text = c.args.text.now in
    let same : bytes_eq text c.as_slice.result.now ≡ true = sym c.eq.ensures ∙ c.if-eq.true in
    let zero : text ≡ 48 ∷ [] = (bytes_eq-Decides text c.as_slice.result.now).0 same ∙ c.as_slice.ensures in
    λ p terms is. c.new-terms.ensures.items ∙ zero_terms c.args.names.now p text c.requires terms is zero

pub push_terms-requires-clause-inside : goal.push_terms-requires-clause-inside
push_terms-requires-clause-inside c =
    inside_next c.args.names.now [] c.push.new.self.items c.sign_in-minus.result.0 c.cut.result.0.now c.term_in.result tt c.term_in.ensures (c.in_ok-push.ensures.items ∙ ap (λ n. n ++ c.term_in.result ∷ []) c.new-terms.ensures.items)

pub returns-clause-read : goal.returns-clause-read
returns-clause-read c =
    let names = c.args.names.now in
    let text = c.args.text.now in
    let first = c.term_in.result in
    let is_first : first ≡ term_in names (begins_with_byte 45 text) (before 32 (unsigned text)) =
    c.term_in.ensures ∙ ap (λ m. term_in names m c.cut.result.0.now) c.sign_in-minus.ensures.minus ∙ ap (term_in names (begins_with_byte 45 text)) (c.cut.ensures.before ∙ ap (before 32) c.sign_in-minus.ensures.rest) in
    let put : c.push.new.self.items ≡ first ∷ [] = c.in_ok-push.ensures.items ∙ ap (λ n. n ++ first ∷ []) c.new-terms.ensures.items in
    let behind_is : c.cut.result.1.now ≡ behind 32 (unsigned text) = c.cut.ensures.behind ∙ ap (behind 32) c.sign_in-minus.ensures.rest in
    let some : text ≢ 48 ∷ [] = λ e.
    let same : bytes_eq text c.as_slice.result.now ≡ true = (bytes_eq-Decides text c.as_slice.result.now).1 (e ∙ sym c.as_slice.ensures) in
    let other : bytes_eq text c.as_slice.result.now ≡ false = sym c.eq.ensures ∙ c.if-eq.false in
    cc in
    λ p terms is. terms_read names p text c.push_terms.new.terms.items c.requires terms is some
    (λ q others rest. c.in_ok-push_terms.ensures.read q others (behind_is ∙ rest) ∙ ap (λ n. n ++ q) (put ∙ ap (λ t. t ∷ []) is_first))
