-- All used words are lent first. The pointers to the three frames are computed as MIR says, and `Lending` makes the references of them. Assumes `Logic`.
use mathlib.Core.Path.{◌≡◌, refl, ap, ◌∙◌}
use Prim.Native.Nat.{ℕ}
use native.Mathlib.Omega.{arith}
use mathlib.Core.List.{List, [], ◌∷◌}
use lib.ListN.{length, take}
use base.Logic.{emp, id⊢}
use base.Fml.{Lft, GName, Share, ftrue, flft}
use mir.Syntax.{named}
use mir.Val.{Val}
use contract.Monad.{fact, fact_i}
use contract.Running.{tables}
use types.Kit.{‵, raw, ◌⊛◌, some, later, at_ret, ◌$◌, ◌∵◌, !, qed, move, drop, use0, use1, use2, use3, split, split3, join, pick, rewrite, fsplit3, fjoin, suffices, await, done}
use types.Part.{whole, sub, agg}
use types.Run.{stop, fld, hop, from, addr, bin, lit, of_opd, and_then, no_more, first, blocks, exec, returns, enter}
use types.ByLocal.{alloc_all, pass_all, free_all, look_at, look_in_at, get, get_in, through, sets, sets_last, lands_as, env}
use denote.Exit.{yes, no}
use denote.RattleType.{owns}
use denote.Array.{Array}
use denote.Builtin.{u64}
use denote.Follow.{follows, follows_both}
use denote.Ref.{Bor, MutBor, mut_vals, mut_Tells}
use denote.Signature.{plain, types_at}
use denote.Slice.{MutSlice, ShrSlice, Room, slice_val}
use denote.Laws.{shows}
use denote.Steps.{nothing, heard, peeks, only}
use denote.Struct.Laws as laws
use denote.Struct.Tuple.{Tuple}
use denote.Triple.Call.{calls_at}
use denote.Triple.Clauses.{lasts}
use denote.Triple.Spec.{triple_of}
use denote.Triple.Table.{framed}
use denote.Triple.Walked.{Stays, stay_dropped, walk_of, Goes-dropped, Goes-spent_ref}
use Rattle.std.proofs.raw_atomic.Walks.{proved, leaves}
use Rattle.std.specs.Prelude.{slice_range}
use Rattle.word_region.specs.declared.Frame.{Frame}
use Rattle.word_region.specs.Frame.{IsLive, AreApart, words_at, end_of, with_frame, all_used}
use Rattle.word_region.specs.Words.{Words, written_at}
use Rattle.word_region.specs.contracts.Frame as frame
use Rattle.word_region.specs.contracts.Region.{the_row}
use Rattle.word_region.specs.contracts.Region.used_words as g
use Rattle.word_region.proofs.Region.used_words.Met.{met}
use Rattle.word_region.proofs.Frame.TheLaws.{the_laws}
use Rattle.word_region.proofs.Lending.{place, part, source, all_written, lends_three, both_then, triple_val, triple_made}
use Rattle.word_region.proofs.Written.{written_at-all, length-written_at}
use Rattle.word_region.specs.contracts.Region.three as f
use Rattle.word_region.proofs.Region.three.Statement.{statement}
use Rattle.word_region.proofs.Region.three.Code as code

abbrev frame_val : Frame → Val
frame_val = laws.val frame.the_type the_laws

abbrev stayed : Stays f.ended.signature.params f.ended.kept
stayed = (stay_dropped _ no, (stay_dropped _ yes, (stay_dropped _ yes, (stay_dropped _ yes, tt))))

pub three_spec : {M : Type 1} → statement M
three_spec 𝓤 𝓛 𝓜 𝓡 wired =
    let c = f.clauses 𝓛 𝓜.mem 𝓡.returns in let W = walk_of 𝓛 f.ended stayed c in let 𝓣 = tables 𝓤 𝓛.H 𝓜 𝓡 𝓡.env in
    let goes = Goes-dropped 𝓛 1 (plain (λ _. frame.the_row)) yes (λ κs x w. refl) in
    let tells = laws.tells frame.the_type the_laws in let vals = laws.vals frame.the_type the_laws in
    proved 𝓛 f.ended stayed c 𝓜 𝓡 (Goes-spent_ref 𝓛 1 (0 ∷ []) tt (plain (λ _. the_row)), (goes, (goes, (goes, tt))))
    f.Key.name code.function (code.unfolded 𝓤 𝓛.H 𝓜 𝓡 wired)
    (λ κs. (mut_vals, (vals, (vals, (vals, tt))))) (λ κs. (mut_Tells (named 0) κs.0 the_row, (tells, (tells, (tells, tt))))) (λ κs qs bounds a ghost are.
    let κ : Lft = κs.0 in let q : Share = qs.0 in
    let region : MutBor Words = a.0 in let γ : GName = region.ghost_name in
    let read : Frame = a.1.0 in let work : Frame = a.1.1.0 in let write : Frame = a.1.1.1.0 in
    let y : W.Ghost = ((κs, qs, bounds, a, (mut_vals a.0, (frame_val read ∷ [], (frame_val work ∷ [], (frame_val write ∷ [], tt))))), ghost) in
    let G = triple_of 𝓛 g.signature (g.spec 𝓛 𝓜.mem 𝓡.returns) in
    let z : G.Ghost = ((κs, qs, bounds, (region, tt), (mut_vals region, tt)), tt) in
    qed 𝓛 (((‵ (flft κ q) ⊛ ‵ ftrue) ⊛ ‵ (owns (types_at f.signature.params κs) a y.0.4))
    ∷ (raw (fact 𝓤 (IsLive region.now read)) ⊛ raw (fact 𝓤 (IsLive region.now work)) ⊛ raw (fact 𝓤 (IsLive region.now write))
    ⊛ raw (fact 𝓤 (AreApart read work)) ⊛ raw (fact 𝓤 (AreApart read write)) ⊛ raw (fact 𝓤 (AreApart work write))) ∷ []) ∵
    move ! (1 ∷ []) $ split3 ! $ heard ! (IsLive region.now read) (λ hr. heard ! (IsLive region.now work) (λ hk. split3 ! $ heard ! (IsLive region.now write) (λ hw. heard ! (AreApart read work) (λ read_work.
    split ! $ heard ! (AreApart read write) (λ read_write. heard ! (AreApart work write) (λ work_write.
    -- [the tokens and what the parameters own]
    split ! $ move ! (1 ∷ []) $ fsplit3 ! $ move ! (1 ∷ 2 ∷ []) $ drop ! $ drop ! $ nothing ! $ move ! (1 ∷ 0 ∷ []) $ fjoin ! $ move ! (1 ∷ 0 ∷ []) $ join ! $ nothing ! $ move ! (1 ∷ 0 ∷ []) $ use2 𝓛 (raw (G.pre z)) (id⊢ 𝓤 _) $
    enter ! 𝓣.C 𝓣.Λ code.function _ _ $ alloc_all ! (λ l. pass_all ! refl ((tt, tt), ((tt, (record { fits = omega arith }, (record { fits = omega arith }, tt))), ((tt, (record { fits = omega arith }, (record { fits = omega arith }, tt))), ((tt, (record { fits = omega arith }, (record { fits = omega arith }, tt))), tt)))) $
    sets ! (addr ! (through ! refl (stop !))) refl (tt, tt) $
    calls_at ! (framed 𝓤 𝓛.H 𝓜 𝓣) G (met 𝓤 𝓛 𝓜 𝓡 (code.calls-word_region::Region::used_words 𝓡.env wired)) z (and_then ! (get ! refl) (no_more !)) (λ r.
    use1 𝓛 (later (some (λ (all : MutBor (List ℕ)). ((‵ (flft κ q) ⊛ ‵ ftrue) ⊛ ‵ ((MutSlice (named 0) κ u64).own_val all (r ∷ []))) ⊛
    some (λ (ws : Unit {0} × Unit {0}). ‵ (lasts g.ended κs z.0.3 ws) ⊛ ‵ (follows the_row (Array u64 0) γ all.ghost_name (with_frame region.now (all_used region.now))) ⊛ raw (fact 𝓤 (all.now ≡ region.now.used)))))) (id⊢ 𝓤 _) $
    await ! tt $ pick ! (λ all. split ! $ split ! $ split ! $ move ! (2 ∷ []) $ peeks ! (MutSlice (named 0) κ u64) _ (shows 𝓛 (MutSlice (named 0) κ u64)) all (r ∷ []) (λ is.
    let xs : List ℕ = all.now in let b : ℕ = all.ref_ptr.0 in let o : ℕ = all.ref_ptr.1 in let rm : Room u64 (length xs) = is.0.1 in
    lands_as ! (ap only is.0.0) refl (tt, (tt, (record { fits = rm.0 }, tt))) $
    move ! (3 ∷ []) $ pick ! (λ ws. split3 ! $ move ! (2 ∷ []) $ heard ! (all.now ≡ region.now.used) (λ used. drop ! $ move ! (3 ∷ []) $ drop ! $
    let long : length xs ≡ length region.now.used = ap length used in
    -- [what follows the slice; what the slice owns; the token; the locals]
    sets ! (addr ! (from ! (fld ! refl (hop ! (look_in_at ! 6 (sub ! 0 refl (whole !))) (stop !))))) refl (tt, tt) $
    first ! $ blocks ! $
    sets ! (bin ! (get_in ! (fld ! refl (stop !)) (sub ! 0 refl (whole !))) (lit ! tt) (record { fits = omega arith })) refl (tt, record { fits = omega arith }) $
    sets ! (bin ! (get ! refl) (get ! refl) tt) refl (tt, tt) $
    sets ! (agg ! (and_then ! (get ! refl) (and_then ! (get_in ! (fld ! refl (stop !)) (sub ! 1 refl (whole !))) (no_more !)))) refl (tt, (tt, (record { fits = omega arith }, tt))) $
    sets ! (bin ! (get_in ! (fld ! refl (stop !)) (sub ! 0 refl (whole !))) (lit ! tt) (record { fits = omega arith })) refl (tt, record { fits = omega arith }) $
    sets ! (bin ! (get ! refl) (get ! refl) tt) refl (tt, tt) $
    sets ! (agg ! (and_then ! (get ! refl) (and_then ! (get_in ! (fld ! refl (stop !)) (sub ! 1 refl (whole !))) (no_more !)))) refl (tt, (tt, (record { fits = omega arith }, tt))) $
    sets ! (bin ! (get_in ! (fld ! refl (stop !)) (sub ! 0 refl (whole !))) (lit ! tt) (record { fits = omega arith })) refl (tt, record { fits = omega arith }) $
    sets ! (bin ! (get ! refl) (get ! refl) tt) refl (tt, tt) $
    sets ! (agg ! (and_then ! (get ! refl) (and_then ! (get_in ! (fld ! refl (stop !)) (sub ! 1 refl (whole !))) (no_more !)))) refl (tt, (tt, (record { fits = omega arith }, tt))) $
    sets_last ! (agg ! (and_then ! (get ! refl) (and_then ! (get ! refl) (and_then ! (get ! refl) (no_more !))))) refl (tt, ((tt, (record { fits = omega arith }, tt)), ((tt, (record { fits = omega arith }, tt)), ((tt, (record { fits = omega arith }, tt)), tt)))) $
    exec ! 𝓣.C 𝓣.Λ (env code.Mir.locals l) code.Mir.t-5 (at_ret _ (W.post y)) $
    sets ! (of_opd ! (get ! refl)) refl (tt, ((tt, (record { fits = omega arith }, tt)), ((tt, (record { fits = omega arith }, tt)), ((tt, (record { fits = omega arith }, tt)), tt)))) $
    let shared : Bor (List ℕ) = source 𝓛 (named 0) κ q b o all.ghost_name xs read work write in let lent : Frame → GName → MutBor (List ℕ) = part 𝓛 (named 0) κ q b o all.ghost_name xs read work write in
    let value : Frame → Val = λ h. slice_val (b, place o h.at) h.len in
    let whole_of : List ℕ → Words = with_frame region.now (all_used region.now) in let parts_of : List ℕ → List ℕ → List ℕ = all_written 𝓛 (named 0) κ q b o all.ghost_name xs read work write in
    let ends : List ℕ → List ℕ → Words = λ v w. with_frame (with_frame region.now work (take work.len v)) write (take write.len w) in
    let back : (v w : List ℕ) → whole_of (parts_of v w) ≡ ends v w = λ v w. ap (λ us. record region.now { used = us })
    (written_at-all (parts_of v w) region.now.used (length-written_at write.at (take write.len w) (written_at work.at (take work.len v) xs) ∙ length-written_at work.at (take work.len v) xs ∙ long)
    ∙ ap (λ ys. written_at write.at (take write.len w) (written_at work.at (take work.len v) ys)) used) in
    let Shr = ShrSlice (named 0) κ u64 in let Mut = MutSlice (named 0) κ u64 in
    move ! (1 ∷ 2 ∷ []) $
    use2 𝓛 (later (some (λ (γs : GName × GName). ‵ (Shr.own_val shared (value read ∷ [])) ⊛ ‵ (Mut.own_val (lent work γs.0) (value work ∷ [])) ⊛ ‵ (Mut.own_val (lent write γs.1) (value write ∷ []))
    ⊛ ‵ (flft κ q) ⊛ ‵ (follows_both (Array u64 0) (Array u64 0) (Array u64 0) all.ghost_name γs.0 γs.1 parts_of))))
    (lends_three 𝓛 (named 0) κ q b o all.ghost_name xs read work write (omega arith) (omega arith) (omega arith) read_work read_write work_write rm (r ∷ [])) $ await ! tt $ pick ! (λ γs. split3 ! $ move ! (2 ∷ []) $ split3 ! $ move ! (3 ∷ 4 ∷ 0 ∷ []) $
    use3 𝓛 (‵ ((Tuple (Shr ∷ Mut ∷ Mut ∷ [])).own_val (shared, lent work γs.0, lent write γs.1) (triple_val (value read) (value work) (value write) ∷ []))) (triple_made 𝓛 Shr Mut Mut shared (lent work γs.0) (lent write γs.1) (value read) (value work) (value write)) $
    move ! (3 ∷ 2 ∷ []) $
    -- [what follows the slice; what the slice follows; the triple; the token]
    use2 𝓛 (‵ (follows_both the_row (Array u64 0) (Array u64 0) γ γs.0 γs.1 (λ v w. whole_of (parts_of v w)))) (both_then 𝓛 the_row γ all.ghost_name γs.0 γs.1 whole_of parts_of) $
    rewrite ! 0 (λ (h : List ℕ → List ℕ → Words). ‵ (follows_both the_row (Array u64 0) (Array u64 0) γ γs.0 γs.1 h)) (λ i v w. back v w i) refl $
    returns ! (look_at ! 0 refl) $ free_all ! refl $
    suffices ! _ (leaves 𝓛 f.ended stayed c y (triple_val (value read) (value work) (value write)) (shared, lent work γs.0, lent write γs.1) (tt, (tt, (tt, (tt, tt)))) (tt, (tt, (tt, (tt, tt))))) $
    use0 𝓛 (raw (fact 𝓤 ((lent write γs.1).now ≡ words_at region.now write))) (fact_i 𝓤 _ (emp 𝓤) (ap (λ ys. slice_range ys write.at (end_of write)) used)) $
    use0 𝓛 (raw (fact 𝓤 ((lent work γs.0).now ≡ words_at region.now work))) (fact_i 𝓤 _ (emp 𝓤) (ap (λ ys. slice_range ys work.at (end_of work)) used)) $ join ! $
    use0 𝓛 (raw (fact 𝓤 (shared.now ≡ words_at region.now read))) (fact_i 𝓤 _ (emp 𝓤) (ap (λ ys. slice_range ys read.at (end_of read)) used)) $ join ! $
    move ! (1 ∷ 0 ∷ []) $ join ! $ nothing ! $ move ! (3 ∷ 0 ∷ []) $ join ! $ nothing ! $ nothing ! $ fjoin ! $ nothing ! $ fjoin ! $ nothing ! $ fjoin ! $ nothing ! $ fjoin ! $
    move ! (1 ∷ 0 ∷ 3 ∷ 2 ∷ []) $ done !))))))))))))))
