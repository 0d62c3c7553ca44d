use Rattle.std.proofs.Common.{◌≡◌, refl, rules}
use Rattle.std.proofs.lemmas.Fn.{answers_by}
use Rattle.poly_maps.specs.Mono.{mono_cmp}
use Rattle.poly_maps.proofs.Adding.{found, not_found}
use Rattle.poly_maps.proofs.term_list.place.Goals as goal

pub returns-clause-there : goal.returns-clause-there
returns-clause-there g c =
    let by_order = c.binary_search_by.ensures.position (λ t. mono_cmp c.args.mono.now t.0) (answers_by _ _ (λ f. f.0.now ≡ c.args.mono.now) (λ f a r g called same. search rules) _ refl) in
    found c.args.terms.now c.args.mono.now _ c.binary_search_by.ensures.bound by_order

pub returns-clause-belongs : goal.returns-clause-belongs
returns-clause-belongs g c =
    let by_order = c.binary_search_by.ensures.position (λ t. mono_cmp c.args.mono.now t.0) (answers_by _ _ (λ f. f.0.now ≡ c.args.mono.now) (λ f a r g called same. search rules) _ refl) in
    not_found c.args.terms.now c.args.mono.now _ c.requires c.binary_search_by.ensures.bound by_order
