-- Multiples of polynomials by residues, and of pairs by the inverse of the leading coefficient.
use Rattle.std.proofs.Common.{◌≡◌, ◌≢◌, ℕ, suc, ◌+◌, ◌*◌, ◌%◌, ◌<◌, Bool, true, false, if◌then◌else◌, Some, List, [], ◌∷◌, ◌++◌, length, get_or, take, inl, inr, refl, sym, ◌∙◌, ap, subst, arith}
use Rattle.std.proofs.Math.Nat.{mod-mod, mod-eq_of_lt, zero-mod}
use Rattle.std.proofs.lemmas.List.{take_more}
use Rattle.std.specs.declared.cmp.Ordering.TheVariants.{Less, Equal, Greater}
use Rattle.prime_field.proofs.Residues.{add-cong}
use Rattle.poly_maps.specs.declared.pair.Pair.{Pair}
use Rattle.poly_maps.specs.Mono.{mono_cmp, is_same}
use Rattle.poly_maps.specs.Polynomial.{coefficient, leading, AreResidues, IsPolynomial}
use Rattle.poly_maps.proofs.MonoLemmas.{mono_itself, mono_flip_less}
use Rattle.poly_maps.proofs.Pinned.{leading_greatest}
use Rattle.poly_maps.proofs.Terms.{coefficient-append}
use Rattle.multivar_recon.specs.Least.{leading_coefficient, IsPairModulo}
use Rattle.multivar_recon.specs.Rays.{IsMonicMultiple}
use Rattle.multivar_recon.proofs.PairVectors.{leads, leading_coefficient-at}
use Rattle.multivar_recon.proofs.Unique.{leading_there}

-- one term more
pub times_more : (m factor i v : ℕ) (poly terms new : List (List ℕ × ℕ)) (t : List ℕ × ℕ) → i < length poly → t ≡ get_or poly i t → v ≡ (t.1 * factor) % m →
    new ≡ terms ++ (t.0, v) ∷ [] → ((e : List ℕ) → coefficient e terms % m ≡ (factor * coefficient e (take i poly)) % m) →
    (e : List ℕ) → coefficient e new % m ≡ (factor * coefficient e (take (i + 1) poly)) % m
times_more m factor i v poly terms new t low is v_is new_is before e =
    ap (λ p. coefficient e p % m) new_is ∙
    ap (λ c. c % m) (coefficient-append e terms ((t.0, v) ∷ [])) ∙
    by (is_same t.0 e) ∙
    ap (λ c. (factor * c) % m) (sym (ap (coefficient e) (take_more poly i t low ∙ ap (λ u. take i poly ++ u ∷ []) (sym is)) ∙ coefficient-append e (take i poly) (t ∷ [])))
  where
    by : (b : Bool) → (coefficient e terms + ((if b then v else 0) + 0)) % m ≡ (factor * (coefficient e (take i poly) + ((if b then t.1 else 0) + 0))) % m
    by true =
        add-cong m (coefficient e terms) (factor * coefficient e (take i poly)) (v + 0) (t.1 * factor) (before e)
        (ap (λ c. (c + 0) % m) v_is ∙ ap (λ c. c % m) (omega arith) ∙ mod-mod (t.1 * factor) m) ∙
        ap (λ c. c % m) (omega arith)
    by false = ap (λ c. c % m) (omega arith) ∙ before e ∙ ap (λ c. (factor * c) % m) (omega arith)

pub residues_push : (m : ℕ) (terms : List (List ℕ × ℕ)) (t : List ℕ × ℕ) → AreResidues m terms → t.1 < m → AreResidues m (terms ++ t ∷ [])
residues_push m [] t low here = (here, tt)
residues_push m (u ∷ terms) t low here = (low.0, residues_push m terms t low.1 here)

pub first_leads : (p : List (List ℕ × ℕ)) (t : List ℕ × ℕ) → p ≢ [] → (get_or p 0 t).1 ≡ leading_coefficient p
first_leads [] t some = absurd (some refl)
first_leads (u ∷ p) t some = refl

-- the pair times the inverse of its denominator's leading coefficient
pub monic_is : (m c : ℕ) (f g : Pair) → 1 < m → IsPairModulo m f → f.den ≢ [] → (leading_coefficient f.den * c) % m ≡ 1 → IsPairModulo m g →
    ((e : List ℕ) → coefficient e g.num ≡ (c * coefficient e f.num) % m) → ((e : List ℕ) → coefficient e g.den ≡ (c * coefficient e f.den) % m) → IsMonicMultiple m c f g
monic_is m c f g large f_is some inverse g_is num_is den_is =
    let there = leading_there f.den some in
    let lead = there.0 in
    let turned : c * coefficient lead f.den ≡ leading_coefficient f.den * c = ap (λ v. c * v) (sym (leading_coefficient-at f.den lead f_is.den.0 there.1)) ∙ omega arith in
    let one : coefficient lead g.den ≡ 1 = den_is lead ∙ ap (λ v. v % m) turned ∙ inverse in
    let leads_too : leading g.den ≡ Some lead =
    leads g.den lead g_is.den.0 (λ none. absurd (omega (arith, one, none)))
    (λ e there_too less. elim (leading_greatest f.den lead e f_is.den.0 there.1
    (λ none. there_too (den_is e ∙ ap (λ v. (c * v) % m) none ∙ ap (λ v. v % m) (zero_product c) ∙ zero-mod m))) [
      | inl same ↦ absurd (not_tied lead e same less)
      | inr below ↦ absurd (not_above lead e below less)
    ]) in
    record {
      pair = g_is;
      monic = leading_coefficient-at g.den lead g_is.den.0 leads_too ∙ one;
      num = num_is;
      den = den_is;
    }
  where
    zero_product : (c : ℕ) → c * 0 ≡ 0
    zero_product c = omega arith

    not_tied : (lead e : List ℕ) → e ≡ lead → mono_cmp lead e ≡ Less → ⊥
    not_tied lead e same less =
        let no : Less ≡ Equal = sym less ∙ ap (mono_cmp lead) same ∙ mono_itself lead in
        cc

    not_above : (lead e : List ℕ) → mono_cmp e lead ≡ Less → mono_cmp lead e ≡ Less → ⊥
    not_above lead e below less =
        let no : Less ≡ Greater = sym less ∙ mono_flip_less e lead below in
        cc
