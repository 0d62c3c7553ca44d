-- What an earlier graph means to the graphs behind it.
use Rattle.std.proofs.Common.{ℕ, zero, suc, ◌<◌, Bool, List, [], inl, inr, sym, subst, arith}
use Rattle.std.specs.Prelude.{slice_get, slice_index_or}
use Rattle.std.proofs.lemmas.Bool.Decides.{eqb_tells}
use Rattle.graph_file.specs.declared.graph.Graph.{Graph}
use Rattle.graph_eval.specs.GraphValue.{GraphValue, MeansAt, Outcome, choose, meanings}

pub earlier_means : (m : ℕ) (graphs : List Graph) (learned : List (List (List ℕ))) (count number : ℕ) (inputs : List ℕ) (outcome : Outcome) → number < count → GraphValue m graphs learned number inputs outcome → meanings m graphs learned count number inputs outcome
earlier_means m graphs learned zero number inputs outcome below means = absurd (omega arith)
earlier_means m graphs learned (suc count) number inputs outcome below means =
    elim (eqb_tells number count) [
      | inl same ↦
          subst (λ (here : Bool). choose here (MeansAt m (meanings m graphs learned count) (slice_index_or learned count []) (slice_get graphs count)) (meanings m graphs learned count number) inputs outcome) (sym same.0)
          (subst (λ (n : ℕ). GraphValue m graphs learned n inputs outcome) same.1 means)
      | inr other ↦
          let apart = other.1 in
          let before : number < count = omega (arith, apart) in
          subst (λ (here : Bool). choose here (MeansAt m (meanings m graphs learned count) (slice_index_or learned count []) (slice_get graphs count)) (meanings m graphs learned count number) inputs outcome) (sym other.0)
          (earlier_means m graphs learned count number inputs outcome before means)
    ]
