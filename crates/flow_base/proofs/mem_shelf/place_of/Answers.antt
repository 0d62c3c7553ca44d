-- The first file of the name stands at the place that was reached.
use Rattle.std.proofs.Common.{◌≡◌, ℕ, ◌<◌, List, ◌∷◌, length, drop, suc, get_or, Some, String, Vec, string_bytes, true, bytes_eq, slice_get, refl, sym, ap, ◌∙◌, drop-cons, rules}
use Rattle.std.specs.declared.alloc.Global.{Global}
use Rattle.std.proofs.lemmas.Option.{slice_get-get_or}
use Rattle.flow_base.specs.Files.{bytes_under, bytes_at}
use Rattle.flow_base.proofs.mem_shelf.place_of.Goals as goal

-- among the files from a place on, the first has the name
bytes_under-drop : (files : List (String Global × Vec ℕ Global)) (file : String Global × Vec ℕ Global) (place : ℕ) (name : List ℕ)
    → place < length files → file ≡ get_or files place file → bytes_eq (string_bytes file.0) name ≡ true → bytes_under (drop place files) name ≡ Some (bytes_at files place)
bytes_under-drop files file place name within is same =
    let here : drop place files ≡ file ∷ drop (suc place) files = drop-cons files place file within ∙ ap (λ f. f ∷ drop (suc place) files) (sym is) in
    let there : slice_get files place ≡ Some file = slice_get-get_or files place file within ∙ ap (λ f. Some f) (sym is) in
    rw (here, there, same) refl

pub returns-then-eq : goal.returns-then-eq
returns-then-eq c =
    (c.loop-place-test.true, c.loop-place.invariant ∙ bytes_under-drop c.args.files.now c.index-files-place.result c.loop-place.place c.args.name.now c.loop-place-test.true c.index-files-place.is (search rules))
