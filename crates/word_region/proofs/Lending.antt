-- A part of a `&mut` slice of words is lent as `&mut`, and the words before and after it as `&`, for all the time that the slice has left. Assumes `Logic`.
use mathlib.Core.Path.{◌≡◌, refl, sym, ap, ◌∙◌}
use Prim.Native.Nat.{ℕ, ◌+◌, ◌-◌, ◌*◌, ◌≤◌}
use native.Mathlib.Omega.{arith}
use mathlib.Core.List.{List, [], ◌∷◌, ◌++◌}
use lib.ListN.{length, take, drop as drop_l, length-append, length-take, length-drop, take-append-drop}
use lib.Seq.{length-take-le, drop-drop, take_all}
use seplogic.Ra.Ura.{Ura}
use base.Fraction.{full_share}
use base.Logic.{SProp, ent, emp, sep, ex, wand}
use base.Stored.{Gv, coded_list}
use base.Fml.{Lft, GName, Share, Fml, ftrue, fsep, fseps, flft, fobs, fres, fbor, Incl-refl}
use mir.Syntax.{Lifetime, w64}
use mir.Val.{Val, vstruct, vcons, vnil}
use types.Logic.{Logic, sem}
use types.Kit.{‵, raw, by, each, assume, ◌⊛◌, some, later, ◌$◌, ◌∵◌, !, qed, move, keep, drop, use1, use2, use3, split, split3, join, group, pick, show, rewrite, fsplit, fsplit3, fjoin, fpack, feq_l, feq_i, await, updating, now, done}
use types.SemTy.{SemTy, cells, Arr, Body}
use types.Share.{parts}
use types.Mut.{open_ref}
use types.Follow.{after₂, followed₂, takes_beside}
use denote.RattleType.{RattleType, Valss}
use denote.Struct.Declared.{shape}
use denote.Struct.Struct.{within}
use denote.Struct.Tuple.{Tuple, tuple_type}
use denote.Memory.{mem, shares, shared_of}
use denote.Array.{Array}
use denote.Builtin.{u64}
use denote.Follow.{follows, follows_both, followed, both_by}
use denote.FollowSlice.{heres_id, slice_of}
use denote.Shares.{Shares, shares_each}
use denote.Slice.{MutSlice, ShrSlice, Room, slice_val, shr_slice_at, elements_shared}
use denote.Opens.{hide}
use denote.Ref.{Bor, MutBor}
use denote.Shadow.{pure_i}
use denote.Steps.{nothing}
use borrow.Table.Copies.{c_rf, Shares-copy}
use borrow.Table.Elements.{at, at_mul, cut_app, join_app}
use borrow.Table.SharedPart.{each-drop, each_take}
use borrow.Table.Referent.{f_int}
use borrow.Rule.Slice.Shared.{parts-cells}
use borrow.Rule.Slice.Followed.{splits}
use Rattle.word_region.specs.Words.{written_at}
use Rattle.word_region.specs.declared.Frame.{Frame}
use Rattle.word_region.specs.Frame.{AreApart, end_of}
use Rattle.word_region.proofs.Written.{written_at-middle, three_parts, slice-front, slice-back, written_high_after, written_low_after}
use Rattle.std.proofs.Common.{inl, inr}
use Rattle.std.specs.Prelude.{slice_range}

abbrev Run : ℕ → SemTy
Run n = Arr (mem u64) n

-- where word i lies, where word 0 lies at p
abbrev pub place : ℕ → ℕ → ℕ
place p i = i * 8 + p

module _ {M : Type 1} {𝓤 : Ura M} (𝓛 : Logic 𝓤) (ℓ : Lifetime) (κ : Lft) (q : Share) (b o : ℕ) (γ : GName) (xs front mid back : List ℕ)
    (is : xs ≡ front ++ (mid ++ back)) (F : List ℕ → List ℕ) (whole_is : (ws : List ℕ) → length ws ≡ length mid → front ++ (ws ++ back) ≡ F ws) (rm : Room u64 (length mid)) where
  open 𝓛 use {H, A}

  -- where the part begins, and where it ends
  abbrev pub start : ℕ
  start = at o (mem u64).size (length front)

  abbrev pub end : ℕ
  end = at start (mem u64).size (length mid)

  abbrev lying : List ℕ → ℕ → Fml
  lying ys p = parts (mem u64) (shares u64) full_share ys b p

  abbrev Beside : List Fml
  Beside = lying front o ∷ lying back end ∷ []

  abbrev pub Got : GName → SProp 𝓤
  Got γ' = sep 𝓤 (sem 𝓛 ((MutSlice ℓ κ u64).own_val (record { ref_ptr = (b, start); ghost_name = γ'; now = mid }) (slice_val (b, start) (length mid) ∷ [])))
      (sep 𝓤 (sem 𝓛 (elements_shared u64 front b o κ)) (sep 𝓤 (sem 𝓛 (elements_shared u64 back b end κ))
      (sep 𝓤 (A.lft κ q) (sem 𝓛 (follows (Array u64 0) (Array u64 0) γ γ' F)))))

  -- with as many words in the part's place, the whole is as F says
  whole_again : (ws : List ℕ) → ent 𝓤 (sep 𝓤 (sem 𝓛 ((Run (length mid)).own_at ws b start)) (sep 𝓤 (sem 𝓛 (fseps Beside)) (emp 𝓤))) (sem 𝓛 ((Run (length xs)).own_at (F ws) b o))
  unfolding fseps
  whole_again ws =
      qed 𝓛 (‵ ((Run (length mid)).own_at ws b start) ∷ (‵ (lying front o) ⊛ ‵ (lying back end) ⊛ ‵ ftrue) ∷ raw (emp 𝓤) ∷ []) ∵ fsplit ! $ feq_l ! (λ e. move ! (1 ∷ []) $ split3 ! $
      rewrite ! 0 (λ (F : Fml). ‵ F) (parts-cells u64 full_share front b o) refl $ move ! (1 ∷ []) $
      rewrite ! 0 (λ (F : Fml). ‵ F) (parts-cells u64 full_share back b end) refl $
      rewrite ! 0 (λ (k : ℕ). ‵ (cells (mem u64) back b (at start (mem u64).size k))) (sym e) refl $ move ! (3 ∷ 0 ∷ []) $
      use2 𝓛 (‵ (cells (mem u64) (ws ++ back) b start)) (join_app 𝓛 (mem u64) ws back b start) $ move ! (1 ∷ 0 ∷ []) $
      use2 𝓛 (‵ (cells (mem u64) (front ++ (ws ++ back)) b o)) (join_app 𝓛 (mem u64) front (ws ++ back) b o) $
      let joined : front ++ (ws ++ back) ≡ F ws = whole_is ws e in
      let one = length-append front (ws ++ back) in let two = length-append ws back in
      let three = ap length is in let four = length-append front (mid ++ back) in let five = length-append mid back in
      let count : length (front ++ (ws ++ back)) ≡ length xs = omega arith in
      rewrite ! 0 (λ (l : List ℕ). ‵ (cells (mem u64) l b o)) joined refl $
      feq_i ! ℕ (length (F ws)) (length xs) (sym (ap length joined) ∙ count) $ fjoin ! $ keep ! (0 ∷ []) $ done !)

  words_Shares : Shares 𝓛 u64 κ
  words_Shares = Shares-copy 𝓛 (c_rf (f_int w64)) κ

  pub lends_middle : (vs : List Val)
      → ent 𝓤 (sep 𝓤 (sem 𝓛 ((MutSlice ℓ κ u64).own_val (record { ref_ptr = (b, o); ghost_name = γ; now = xs }) vs)) (A.lft κ q)) (H.⇛ (ex 𝓤 Got))
  unfolding fseps
  lends_middle vs =
      qed 𝓛 (‵ ((MutSlice ℓ κ u64).own_val (record { ref_ptr = (b, o); ghost_name = γ; now = xs }) vs) ∷ ‵ (flft κ q) ∷ []) ∵ updating ! $ fsplit3 ! $ drop ! $
      rewrite ! 0 (λ (l : List ℕ). ‵ (fobs γ ((coded_list u64.coded).code l))) (heres_id u64 xs) refl $ open_ref ! tt (Run (length xs)) {b = b} {o = o} $ fsplit ! $ drop ! $
      rewrite ! 0 (λ (l : List ℕ). ‵ (cells (mem u64) l b o)) is refl $
      use1 𝓛 (‵ (cells (mem u64) front b o) ⊛ ‵ (cells (mem u64) (mid ++ back) b start)) (cut_app 𝓛 (mem u64) front (mid ++ back) b o) $ split ! $
      rewrite ! 0 (λ (F : Fml). ‵ F) (sym (parts-cells u64 full_share front b o)) refl $ move ! (1 ∷ []) $
      use1 𝓛 (‵ (cells (mem u64) mid b start) ⊛ ‵ (cells (mem u64) back b end)) (cut_app 𝓛 (mem u64) mid back b start) $ split ! $
      feq_i ! ℕ (length mid) (length mid) refl $ fjoin ! $ move ! (1 ∷ []) $
      rewrite ! 0 (λ (F : Fml). ‵ F) (sym (parts-cells u64 full_share back b end)) refl $ nothing ! $ move ! (1 ∷ 0 ∷ []) $ fjoin ! $ move ! (2 ∷ 0 ∷ []) $ fjoin ! $
      -- [the parts beside; the part; the open borrow; obs; auth]
      nothing ! $ move ! (3 ∷ 4 ∷ 5 ∷ 2 ∷ 1 ∷ 0 ∷ []) $ group ! 6 $
      use1 𝓛 (later (some (λ (γ' : GName). ‵ (fobs γ' ((coded_list u64.coded).code mid)) ⊛ ‵ (fbor κ (Body (Run (length mid)) b start γ')) ⊛ ‵ (flft κ q)
      ⊛ ‵ (follows (Array u64 0) (Array u64 0) γ γ' F) ⊛ ‵ (fbor κ (lying front o)) ⊛ ‵ (fbor κ (lying back end)) ⊛ ‵ ftrue)))
      (takes_beside 𝓛 (Run (length xs)) (Run (length mid)) F κ q b o b start γ Beside (emp 𝓤) whole_again ((coded_list u64.coded).code xs) ((coded_list u64.coded).code xs) mid) $ await ! tt $ pick ! (λ γ'. split3 ! $
      use2 𝓛 (‵ ((MutSlice ℓ κ u64).own_val (record { ref_ptr = (b, start); ghost_name = γ'; now = mid }) (slice_val (b, start) (length mid) ∷ []))) (slice_of 𝓛 u64 ℓ κ b start γ' mid rm) $
      move ! (1 ∷ []) $ split3 ! $ move ! (2 ∷ []) $ split3 ! $ move ! (0 ∷ 3 ∷ []) $
      -- [the words before, lent; the token; the words after, lent; nothing; what follows; the part]
      use2 𝓛 (later (‵ (elements_shared u64 front b o κ) ⊛ ‵ (flft κ q))) (shares_each 𝓛 u64 (shared_of u64) κ words_Shares front κ ((κ, q) ∷ []) b o (Incl-refl κ) (Incl-refl κ)) $ await ! tt $ split ! $ move ! (2 ∷ 1 ∷ []) $
      use2 𝓛 (later (‵ (elements_shared u64 back b end κ) ⊛ ‵ (flft κ q))) (shares_each 𝓛 u64 (shared_of u64) κ words_Shares back κ ((κ, q) ∷ []) b end (Incl-refl κ) (Incl-refl κ)) $ await ! tt $ split ! $
      now ! $ show ! Got γ' $ keep ! (5 ∷ 2 ∷ 0 ∷ 1 ∷ 4 ∷ []) $ done !)

module _ {M : Type 1} {𝓤 : Ura M} (𝓛 : Logic 𝓤) (κ : Lft) (b o : ℕ) where
  abbrev shared : List ℕ → ℕ → Fml
  shared ys p = elements_shared u64 ys b p κ

  -- a run of what is lent as `&`
  run_of : (ys : List ℕ) (p i len : ℕ) → i ≤ length ys → ent 𝓤 (sem 𝓛 (shared ys p)) (sem 𝓛 (shared (take len (drop_l i ys)) (place p i)))
  run_of ys p i len h =
      let lies : at p (mem u64).size (length (take i ys)) ≡ place p i = at_mul p (mem u64).size (length (take i ys)) ∙ ap (λ k. place p k) (length-take-le i ys h) in
      qed 𝓛 (‵ (shared ys p) ∷ []) ∵ use1 𝓛 (‵ (shared (drop_l i ys) (at p (mem u64).size (length (take i ys))))) (each-drop 𝓛 (shared_of u64) (mem u64).size κ b i ys p) $
      rewrite ! 0 (λ (k : ℕ). ‵ (shared (drop_l i ys) k)) lies refl $ by ! (each_take 𝓛 (shared_of u64) (mem u64).size κ b len (drop_l i ys) (place p i))

  -- a frame that ends before another begins, in the words before that one
  reads_before : (xs : List ℕ) (read write : Frame) → end_of read ≤ length xs → end_of write ≤ length xs → end_of read ≤ write.at
      → ent 𝓤 (sem 𝓛 (shared (take write.at xs) o)) (sem 𝓛 (shared (slice_range xs read.at (end_of read)) (place o read.at)))
  reads_before xs read write hr hw before =
      let count : length (take write.at xs) ≡ write.at = length-take-le write.at xs (omega arith) in
      let len : read.len ≡ end_of read - read.at = omega arith in
      let same : take read.len (drop_l read.at (take write.at xs)) ≡ slice_range xs read.at (end_of read) = slice-front xs write.at read.at read.len before (omega arith) ∙ ap (λ k. take k (drop_l read.at xs)) len in
      qed 𝓛 (‵ (shared (take write.at xs) o) ∷ []) ∵
      use1 𝓛 (‵ (shared (take read.len (drop_l read.at (take write.at xs))) (place o read.at))) (run_of (take write.at xs) o read.at read.len (omega arith)) $
      rewrite ! 0 (λ (ys : List ℕ). ‵ (shared ys (place o read.at))) same refl $ done !

  -- a frame that begins after another ends, in the words after that one
  reads_after : (xs : List ℕ) (read write : Frame) (p : ℕ) → p ≡ place o (end_of write) → end_of read ≤ length xs → end_of write ≤ length xs → end_of write ≤ read.at
      → ent 𝓤 (sem 𝓛 (shared (drop_l write.len (drop_l write.at xs)) p)) (sem 𝓛 (shared (slice_range xs read.at (end_of read)) (place o read.at)))
  reads_after xs read write p lies hr hw after =
      let i : ℕ = read.at - end_of write in
      let rest : drop_l write.len (drop_l write.at xs) ≡ drop_l (end_of write) xs = drop-drop write.len write.at xs in
      let count = length-drop (end_of write) xs in
      let len : read.len ≡ end_of read - read.at = omega arith in
      let same : take read.len (drop_l i (drop_l (end_of write) xs)) ≡ slice_range xs read.at (end_of read) = slice-back xs (end_of write) read.at read.len after ∙ ap (λ k. take k (drop_l read.at xs)) len in
      let on : place p i ≡ place o read.at = omega arith in
      qed 𝓛 (‵ (shared (drop_l write.len (drop_l write.at xs)) p) ∷ []) ∵
      rewrite ! 0 (λ (ys : List ℕ). ‵ (shared ys p)) rest refl $
      use1 𝓛 (‵ (shared (take read.len (drop_l i (drop_l (end_of write) xs))) (place p i))) (run_of (drop_l (end_of write) xs) p i read.len (omega arith)) $
      rewrite ! 0 (λ (ys : List ℕ). ‵ (shared ys (place p i))) same refl $ rewrite ! 0 (λ (k : ℕ). ‵ (shared (slice_range xs read.at (end_of read)) k)) on refl $ done !

  -- a frame that is apart from the part that is lent as `&mut` lies before it or after it
  pub reads_beside : (xs : List ℕ) (read write : Frame) (p : ℕ) → p ≡ place o (end_of write) → end_of read ≤ length xs → end_of write ≤ length xs → AreApart read write
      → ent 𝓤 (sep 𝓤 (sem 𝓛 (shared (take write.at xs) o)) (sem 𝓛 (shared (drop_l write.len (drop_l write.at xs)) p))) (sem 𝓛 (shared (slice_range xs read.at (end_of read)) (place o read.at)))
  reads_beside xs read write p lies hr hw (inl before) =
      qed 𝓛 (‵ (shared (take write.at xs) o) ∷ ‵ (shared (drop_l write.len (drop_l write.at xs)) p) ∷ []) ∵ keep ! (0 ∷ []) $ by ! (reads_before xs read write hr hw before)
  reads_beside xs read write p lies hr hw (inr after) =
      qed 𝓛 (‵ (shared (take write.at xs) o) ∷ ‵ (shared (drop_l write.len (drop_l write.at xs)) p) ∷ []) ∵ drop ! $ by ! (reads_after xs read write p lies hr hw after)

module _ {M : Type 1} {𝓤 : Ura M} (𝓛 : Logic 𝓤) (ℓ : Lifetime) (κ : Lft) (q : Share) (b o : ℕ) (γ : GName) (xs : List ℕ) (read write : Frame) where
  open 𝓛 use {H, A}

  abbrev pub reading : Bor (List ℕ)
  reading = record { ref_ptr = (b, place o read.at); now = slice_range xs read.at (end_of read) }

  abbrev pub writing : GName → MutBor (List ℕ)
  writing γ' = record { ref_ptr = (b, place o write.at); ghost_name = γ'; now = slice_range xs write.at (end_of write) }

  abbrev pub Lent : GName → SProp 𝓤
  Lent γ' = sep 𝓤 (sem 𝓛 ((ShrSlice ℓ κ u64).own_val reading (slice_val (b, place o read.at) read.len ∷ []))) (sep 𝓤 (sem 𝓛 ((MutSlice ℓ κ u64).own_val (writing γ') (slice_val (b, place o write.at) write.len ∷ [])))
      (sep 𝓤 (A.lft κ q) (sem 𝓛 (follows (Array u64 0) (Array u64 0) γ γ' (λ ws. written_at write.at ws xs)))))

  pub lends_frames : end_of read ≤ length xs → end_of write ≤ length xs → AreApart read write → Room u64 (length xs) → (vs : List Val)
      → ent 𝓤 (sep 𝓤 (sem 𝓛 ((MutSlice ℓ κ u64).own_val (record { ref_ptr = (b, o); ghost_name = γ; now = xs }) vs)) (A.lft κ q)) (H.⇛ (ex 𝓤 Lent))
  lends_frames hr hw apart rm vs =
      let front : List ℕ = take write.at xs in let mid : List ℕ = take write.len (drop_l write.at xs) in let back : List ℕ = drop_l write.len (drop_l write.at xs) in
      let long : length front ≡ write.at = length-take-le write.at xs (omega arith) in
      let rest = length-drop write.at xs in
      let count : length mid ≡ write.len = length-take-le write.len (drop_l write.at xs) (omega arith) in
      let part : mid ≡ slice_range xs write.at (end_of write) = let e : write.len ≡ end_of write - write.at = omega arith in ap (λ k. take k (drop_l write.at xs)) e in
      let begin : ℕ = at o (mem u64).size (length front) in
      let past : ℕ = at begin (mem u64).size (length mid) in
      let begins : begin ≡ place o write.at = at_mul o (mem u64).size (length front) ∙ ap (place o) long in
      let stops : past ≡ place o (end_of write) = let e = at_mul begin (mem u64).size (length mid) ∙ ap (place begin) count in omega arith in
      let after = length-drop read.at xs in
      let source : List ℕ = slice_range xs read.at (end_of read) in
      let seen : length source ≡ read.len = length-take-le (end_of read - read.at) (drop_l read.at xs) (omega arith) ∙ omega arith in
      let rm_mid : Room u64 (length mid) = (omega arith, omega arith) in
      let rm_source : Room u64 (length source) = (omega arith, omega arith) in
      let Mut : GName → ℕ → ℕ → List ℕ → Fml = λ γ' p k zs. (MutSlice ℓ κ u64).own_val (record { ref_ptr = (b, p); ghost_name = γ'; now = zs }) (slice_val (b, p) k ∷ []) in
      let Follows : GName → Fml = λ γ'. follows (Array u64 0) (Array u64 0) γ γ' (λ ws. written_at write.at ws xs) in
      qed 𝓛 (‵ ((MutSlice ℓ κ u64).own_val (record { ref_ptr = (b, o); ghost_name = γ; now = xs }) vs) ∷ ‵ (flft κ q) ∷ []) ∵ updating ! $
      use2 𝓛 (later (some (λ (γ' : GName). ‵ (Mut γ' begin (length mid) mid) ⊛ ‵ (elements_shared u64 front b o κ) ⊛ ‵ (elements_shared u64 back b past κ) ⊛ ‵ (flft κ q) ⊛ ‵ (Follows γ'))))
      (lends_middle 𝓛 ℓ κ q b o γ xs front mid back (three_parts xs write.at write.len) (λ ws. written_at write.at ws xs) (λ ws same. written_at-middle xs front mid back ws write.at (three_parts xs write.at write.len) long same) rm_mid vs) $ await ! tt $ pick ! (λ γ'. split3 ! $ move ! (2 ∷ []) $ split3 ! $
      -- [the words after; the token; what follows; the part; the words before]
      rewrite ! 3 (λ (p : ℕ). ‵ (Mut γ' p (length mid) mid)) begins refl $ rewrite ! 3 (λ (k : ℕ). ‵ (Mut γ' (place o write.at) k mid)) count refl $
      rewrite ! 3 (λ (zs : List ℕ). ‵ (Mut γ' (place o write.at) write.len zs)) part refl $ move ! (4 ∷ 0 ∷ []) $
      use2 𝓛 (‵ (elements_shared u64 source b (place o read.at) κ)) (reads_beside 𝓛 κ b o xs read write past stops hr hw apart) $ hide ! $
      pure_i ! (shr_slice_at u64 reading (slice_val (b, place o read.at) read.len ∷ [])) (tt, (tt, tt)) ((λ i. slice_val (b, place o read.at) (sym seen i) ∷ []), rm_source) $ fjoin ! $
      now ! $ show ! Lent γ' $ move ! (0 ∷ 3 ∷ 1 ∷ 2 ∷ []) $ done !)

module _ {M : Type 1} {𝓤 : Ura M} (𝓛 : Logic 𝓤) where
  open 𝓛 use {H, A}

  abbrev code : List ℕ → Gv
  code = (coded_list u64.coded).code

  -- each of two parts that a slice was cut into lent one part of its own
  ties_joined : (γ γa γb γ₁ γ₂ : GName) (F G : List ℕ → List ℕ)
      → ent 𝓤 (sep 𝓤 (sem 𝓛 (after₂ (Run 0) (Run 0) (Run 0) γ γa γb ◌++◌)) (sep 𝓤 (sem 𝓛 (follows (Array u64 0) (Array u64 0) γa γ₁ F)) (sem 𝓛 (follows (Array u64 0) (Array u64 0) γb γ₂ G))))
      (sem 𝓛 (follows_both (Array u64 0) (Array u64 0) (Array u64 0) γ γ₁ γ₂ (λ v w. F v ++ G w)))
  unfolding both_by
  ties_joined γ γa γb γ₁ γ₂ F G =
      qed 𝓛 (‵ (after₂ (Run 0) (Run 0) (Run 0) γ γa γb ◌++◌) ∷ ‵ (follows (Array u64 0) (Array u64 0) γa γ₁ F) ∷ ‵ (follows (Array u64 0) (Array u64 0) γb γ₂ G) ∷ []) ∵
      each ! (λ (p : List ℕ × List ℕ). wand 𝓤 (sep 𝓤 (A.res γ₁ (code p.0)) (A.res γ₂ (code p.1))) (A.res γ (code (F p.0 ++ G p.1)))) (λ p.
      assume ! (‵ (fsep (fres γ₁ (code p.0)) (fres γ₂ (code p.1)))) $ fsplit ! $ move ! (3 ∷ 0 ∷ []) $
      use2 𝓛 (‵ (fres γa (code (F p.0)))) (followed 𝓛 (Array u64 0) (Array u64 0) F γa γ₁ p.0) $ move ! (3 ∷ 1 ∷ []) $
      use2 𝓛 (‵ (fres γb (code (G p.1)))) (followed 𝓛 (Array u64 0) (Array u64 0) G γb γ₂ p.1) $ move ! (1 ∷ 0 ∷ []) $ join ! $
      use2 𝓛 (‵ (fres γ (code (F p.0 ++ G p.1)))) (followed₂ 𝓛 (Run 0) (Run 0) (Run 0) ◌++◌ γ γa γb (F p.0) (G p.1)) $ done !)

  pub both_swapped : (γ γ₁ γ₂ : GName) (F : List ℕ → List ℕ → List ℕ)
      → ent 𝓤 (sem 𝓛 (follows_both (Array u64 0) (Array u64 0) (Array u64 0) γ γ₁ γ₂ F)) (sem 𝓛 (follows_both (Array u64 0) (Array u64 0) (Array u64 0) γ γ₂ γ₁ (λ w v. F v w)))
  unfolding both_by
  both_swapped γ γ₁ γ₂ F =
      qed 𝓛 (‵ (follows_both (Array u64 0) (Array u64 0) (Array u64 0) γ γ₁ γ₂ F) ∷ []) ∵
      each ! (λ (p : List ℕ × List ℕ). wand 𝓤 (sep 𝓤 (A.res γ₂ (code p.0)) (A.res γ₁ (code p.1))) (A.res γ (code (F p.1 p.0)))) (λ p.
      assume ! (‵ (fsep (fres γ₂ (code p.0)) (fres γ₁ (code p.1)))) $ fsplit ! $ move ! (1 ∷ 0 ∷ []) $ join ! $
      use2 𝓛 (‵ (fres γ (code (F p.1 p.0)))) (followed₂ 𝓛 (mem (Array u64 0)) (mem (Array u64 0)) (mem (Array u64 0)) F γ γ₁ γ₂ p.1 p.0) $ done !)

  -- a part that lent two parts of its own
  pub both_then : (R : RattleType) (γr γ γ₁ γ₂ : GName) (K : List ℕ → R.Denot) (F : List ℕ → List ℕ → List ℕ)
      → ent 𝓤 (sep 𝓤 (sem 𝓛 (follows R (Array u64 0) γr γ K)) (sem 𝓛 (follows_both (Array u64 0) (Array u64 0) (Array u64 0) γ γ₁ γ₂ F))) (sem 𝓛 (follows_both R (Array u64 0) (Array u64 0) γr γ₁ γ₂ (λ v w. K (F v w))))
  unfolding both_by
  both_then R γr γ γ₁ γ₂ K F =
      qed 𝓛 (‵ (follows R (Array u64 0) γr γ K) ∷ ‵ (follows_both (Array u64 0) (Array u64 0) (Array u64 0) γ γ₁ γ₂ F) ∷ []) ∵
      each ! (λ (p : List ℕ × List ℕ). wand 𝓤 (sep 𝓤 (A.res γ₁ (code p.0)) (A.res γ₂ (code p.1))) (A.res γr (R.coded.code (K (F p.0 p.1))))) (λ p.
      assume ! (‵ (fsep (fres γ₁ (code p.0)) (fres γ₂ (code p.1)))) $ move ! (0 ∷ 2 ∷ []) $
      use2 𝓛 (‵ (fres γ (code (F p.0 p.1)))) (followed₂ 𝓛 (mem (Array u64 0)) (mem (Array u64 0)) (mem (Array u64 0)) F γ γ₁ γ₂ p.0 p.1) $ move ! (1 ∷ 0 ∷ []) $
      use2 𝓛 (‵ (fres γr (R.coded.code (K (F p.0 p.1))))) (followed 𝓛 R (Array u64 0) K γr γ (F p.0 p.1)) $ done !)

-- A slice is cut where the higher of two frames begins, and each half lends the frame that lies in it.
module _ {M : Type 1} {𝓤 : Ura M} (𝓛 : Logic 𝓤) (ℓ : Lifetime) (κ : Lft) (q : Share) (b o : ℕ) (γ : GName) (xs : List ℕ) (read low high : Frame) where
  open 𝓛 use {H, A}

  abbrev pub part : Frame → GName → MutBor (List ℕ)
  part f γ' = record { ref_ptr = (b, place o f.at); ghost_name = γ'; now = slice_range xs f.at (end_of f) }

  abbrev pub source : Bor (List ℕ)
  source = record { ref_ptr = (b, place o read.at); now = slice_range xs read.at (end_of read) }

  abbrev pub both_written : List ℕ → List ℕ → List ℕ
  both_written v w = written_at low.at (take low.len v) (take high.at xs) ++ written_at 0 (take high.len w) (drop_l high.at xs)

  abbrev pub LentTwo : GName × GName → SProp 𝓤
  LentTwo γs = sep 𝓤 (sem 𝓛 ((ShrSlice ℓ κ u64).own_val source (slice_val (b, place o read.at) read.len ∷ [])))
      (sep 𝓤 (sem 𝓛 ((MutSlice ℓ κ u64).own_val (part low γs.0) (slice_val (b, place o low.at) low.len ∷ []))) (sep 𝓤 (sem 𝓛 ((MutSlice ℓ κ u64).own_val (part high γs.1) (slice_val (b, place o high.at) high.len ∷ [])))
      (sep 𝓤 (A.lft κ q) (sem 𝓛 (follows_both (Array u64 0) (Array u64 0) (Array u64 0) γ γs.0 γs.1 both_written)))))

  -- a frame that is apart from both lies before the lower one, between them or after the higher one
  reads_apart : (p r : ℕ) → p ≡ place o (end_of low) → r ≡ place o (end_of high) → end_of read ≤ length xs → end_of high ≤ length xs → end_of low ≤ high.at → AreApart read low → AreApart read high
      → ent 𝓤 (sep 𝓤 (sem 𝓛 (elements_shared u64 (take low.at (take high.at xs)) b o κ)) (sep 𝓤 (sem 𝓛 (elements_shared u64 (drop_l low.len (drop_l low.at (take high.at xs))) b p κ))
      (sem 𝓛 (elements_shared u64 (drop_l high.len (drop_l high.at xs)) b r κ)))) (sem 𝓛 (elements_shared u64 source.now b (place o read.at) κ))
  reads_apart p r on_p on_r hr hh order apart (inl before) =
      let front : List ℕ = take high.at xs in
      let count : length front ≡ high.at = length-take-le high.at xs (omega arith) in
      let same : slice_range front read.at (end_of read) ≡ source.now = slice-front xs high.at read.at (end_of read - read.at) (omega arith) (omega arith) in
      qed 𝓛 (‵ (elements_shared u64 (take low.at front) b o κ) ∷ ‵ (elements_shared u64 (drop_l low.len (drop_l low.at front)) b p κ) ∷ ‵ (elements_shared u64 (drop_l high.len (drop_l high.at xs)) b r κ) ∷ []) ∵
      use2 𝓛 (‵ (elements_shared u64 (slice_range front read.at (end_of read)) b (place o read.at) κ)) (reads_beside 𝓛 κ b o front read low p on_p (omega arith) (omega arith) apart) $ keep ! (0 ∷ []) $
      rewrite ! 0 (λ (ys : List ℕ). ‵ (elements_shared u64 ys b (place o read.at) κ)) same refl $ done !
  reads_apart p r on_p on_r hr hh order apart (inr after) =
      let front : List ℕ = take high.at xs in
      qed 𝓛 (‵ (elements_shared u64 (take low.at front) b o κ) ∷ ‵ (elements_shared u64 (drop_l low.len (drop_l low.at front)) b p κ) ∷ ‵ (elements_shared u64 (drop_l high.len (drop_l high.at xs)) b r κ) ∷ []) ∵
      keep ! (2 ∷ []) $ by ! (reads_after 𝓛 κ b o xs read high r on_r hr hh after)

  pub lends_two : end_of read ≤ length xs → end_of high ≤ length xs → end_of low ≤ high.at → AreApart read low → AreApart read high → Room u64 (length xs) → (vs : List Val)
      → ent 𝓤 (sep 𝓤 (sem 𝓛 ((MutSlice ℓ κ u64).own_val (record { ref_ptr = (b, o); ghost_name = γ; now = xs }) vs)) (A.lft κ q)) (H.⇛ (ex 𝓤 LentTwo))
  lends_two hr hh order read_low read_high rm vs =
      let front : List ℕ = take high.at xs in let back : List ℕ = drop_l high.at xs in
      let before : List ℕ = take low.at front in let first : List ℕ = take low.len (drop_l low.at front) in let between : List ℕ = drop_l low.len (drop_l low.at front) in
      let second : List ℕ = take high.len back in let rest : List ℕ = drop_l high.len back in
      let n_front : length front ≡ high.at = length-take-le high.at xs (omega arith) in let n_back = length-drop high.at xs in
      let n_before : length before ≡ low.at = length-take-le low.at front (omega arith) in let n_within = length-drop low.at front in
      let n_first : length first ≡ low.len = length-take-le low.len (drop_l low.at front) (omega arith) in
      let n_second : length second ≡ high.len = length-take-le high.len back (omega arith) in
      let first_is : first ≡ slice_range xs low.at (end_of low) = let e : low.len ≡ end_of low - low.at = omega arith in slice-front xs high.at low.at low.len (omega arith) (omega arith) ∙ ap (λ k. take k (drop_l low.at xs)) e in
      let second_is : second ≡ slice_range xs high.at (end_of high) = let e : high.len ≡ end_of high - high.at = omega arith in ap (λ k. take k back) e in
      let size : ℕ = (mem u64).size in
      let at_low : ℕ = at o size (length before) in let past_low : ℕ = at at_low size (length first) in
      let at_high : ℕ = at o size (length front) in let past_high : ℕ = at at_high size (length second) in
      let low_begins : at_low ≡ place o low.at = at_mul o size (length before) ∙ ap (place o) n_before in
      let low_stops : past_low ≡ place o (end_of low) = let e = at_mul at_low size (length first) ∙ ap (place at_low) n_first in omega arith in
      let high_begins : at_high ≡ place o high.at = at_mul o size (length front) ∙ ap (place o) n_front in
      let high_stops : past_high ≡ place o (end_of high) = let e = at_mul at_high size (length second) ∙ ap (place at_high) n_second in omega arith in
      let n_read = length-drop read.at xs in
      let seen : length source.now ≡ read.len = length-take-le (end_of read - read.at) (drop_l read.at xs) (omega arith) ∙ omega arith in
      let F : List ℕ → List ℕ = λ v. written_at low.at (take low.len v) front in let G : List ℕ → List ℕ = λ w. written_at 0 (take high.len w) back in
      let F_is : (v : List ℕ) → length v ≡ length first → before ++ (v ++ between) ≡ F v = λ v e. written_at-middle front before first between v low.at (three_parts front low.at low.len) n_before e ∙ ap (λ ys. written_at low.at ys front) (sym (take_all low.len v (omega (arith, e, n_first)))) in
      let G_is : (w : List ℕ) → length w ≡ length second → [] ++ (w ++ rest) ≡ G w = λ w e. written_at-middle back [] second rest w 0 (sym (take-append-drop high.len back)) refl e ∙ ap (λ ys. written_at 0 ys back) (sym (take_all high.len w (omega (arith, e, n_second)))) in
      let Mut : GName → ℕ → ℕ → List ℕ → Fml = λ γ' p k zs. (MutSlice ℓ κ u64).own_val (record { ref_ptr = (b, p); ghost_name = γ'; now = zs }) (slice_val (b, p) k ∷ []) in
      qed 𝓛 (‵ ((MutSlice ℓ κ u64).own_val (record { ref_ptr = (b, o); ghost_name = γ; now = xs }) vs) ∷ ‵ (flft κ q) ∷ []) ∵ updating ! $
      rewrite ! 0 (λ (zs : List ℕ). ‵ ((MutSlice ℓ κ u64).own_val (record { ref_ptr = (b, o); ghost_name = γ; now = zs }) vs)) (sym (take-append-drop high.at xs)) refl $
      use2 𝓛 (later (some (λ (γs : GName × GName). ‵ (Mut γs.0 o (length front) front) ⊛ ‵ (Mut γs.1 at_high (length back) back) ⊛ ‵ (flft κ q) ⊛ ‵ (after₂ (Run 0) (Run 0) (Run 0) γ γs.0 γs.1 ◌++◌))))
      (splits 𝓛 u64 ℓ κ q b o γ front back (omega arith, omega arith) (omega arith, omega arith) vs) $ await ! tt $ pick ! (λ γs. split3 ! $ move ! (2 ∷ []) $ split ! $ move ! (2 ∷ 0 ∷ []) $
      -- [the lower half; the token; what follows both; the higher half]
      use2 𝓛 (later (some (λ (γ' : GName). ‵ (Mut γ' at_low (length first) first) ⊛ ‵ (elements_shared u64 before b o κ) ⊛ ‵ (elements_shared u64 between b past_low κ) ⊛ ‵ (flft κ q) ⊛ ‵ (follows (Array u64 0) (Array u64 0) γs.0 γ' F))))
      (lends_middle 𝓛 ℓ κ q b o γs.0 front before first between (three_parts front low.at low.len) F F_is (omega arith, omega arith) (slice_val (b, o) (length front) ∷ [])) $ await ! tt $ pick ! (λ γ₁. split3 ! $ move ! (2 ∷ []) $ split3 ! $ move ! (6 ∷ 1 ∷ []) $
      -- [the higher half; the token; the words between; how the lower half follows; the lower part; the words before; what follows both]
      use2 𝓛 (later (some (λ (γ' : GName). ‵ (Mut γ' at_high (length second) second) ⊛ ‵ (elements_shared u64 [] b at_high κ) ⊛ ‵ (elements_shared u64 rest b past_high κ) ⊛ ‵ (flft κ q) ⊛ ‵ (follows (Array u64 0) (Array u64 0) γs.1 γ' G))))
      (lends_middle 𝓛 ℓ κ q b at_high γs.1 back [] second rest (sym (take-append-drop high.len back)) G G_is (omega arith, omega arith) (slice_val (b, at_high) (length back) ∷ [])) $ await ! tt $ pick ! (λ γ₂. split3 ! $ move ! (2 ∷ []) $ split3 ! $ move ! (8 ∷ 5 ∷ 0 ∷ []) $
      -- [the words before; those between; those after; the token; how the higher half follows; the higher part; nothing; how the lower half follows; the lower part; what follows both]
      use3 𝓛 (‵ (elements_shared u64 source.now b (place o read.at) κ)) (reads_apart past_low past_high low_stops high_stops hr hh order read_low read_high) $ hide ! $
      pure_i ! (shr_slice_at u64 source (slice_val (b, place o read.at) read.len ∷ [])) (tt, (tt, tt)) ((λ i. slice_val (b, place o read.at) (sym seen i) ∷ []), (omega arith, omega arith)) $ fjoin ! $ move ! (7 ∷ 5 ∷ 2 ∷ []) $
      use3 𝓛 (‵ (follows_both (Array u64 0) (Array u64 0) (Array u64 0) γ γ₁ γ₂ both_written)) (ties_joined 𝓛 γ γs.0 γs.1 γ₁ γ₂ F G) $
      -- [what follows; the words read; the token; the higher part; nothing; the lower part]
      rewrite ! 3 (λ (p : ℕ). ‵ (Mut γ₂ p (length second) second)) high_begins refl $ rewrite ! 3 (λ (k : ℕ). ‵ (Mut γ₂ (place o high.at) k second)) n_second refl $ rewrite ! 3 (λ (zs : List ℕ). ‵ (Mut γ₂ (place o high.at) high.len zs)) second_is refl $
      rewrite ! 5 (λ (p : ℕ). ‵ (Mut γ₁ p (length first) first)) low_begins refl $ rewrite ! 5 (λ (k : ℕ). ‵ (Mut γ₁ (place o low.at) k first)) n_first refl $ rewrite ! 5 (λ (zs : List ℕ). ‵ (Mut γ₁ (place o low.at) low.len zs)) first_is refl $
      now ! $ show ! LentTwo (γ₁, γ₂) $ keep ! (1 ∷ 5 ∷ 3 ∷ 2 ∷ 0 ∷ []) $ done !)))

-- The two frames that are lent as `&mut`, whichever begins first.
module _ {M : Type 1} {𝓤 : Ura M} (𝓛 : Logic 𝓤) (ℓ : Lifetime) (κ : Lft) (q : Share) (b o : ℕ) (γ : GName) (xs : List ℕ) (read work write : Frame) where
  open 𝓛 use {H, A}

  abbrev pub all_written : List ℕ → List ℕ → List ℕ
  all_written v w = written_at write.at (take write.len w) (written_at work.at (take work.len v) xs)

  abbrev frame_lent : Frame → GName → Fml
  frame_lent f γ' = (MutSlice ℓ κ u64).own_val (part 𝓛 ℓ κ q b o γ xs read work write f γ') (slice_val (b, place o f.at) f.len ∷ [])

  abbrev read_lent : Fml
  read_lent = (ShrSlice ℓ κ u64).own_val (source 𝓛 ℓ κ q b o γ xs read work write) (slice_val (b, place o read.at) read.len ∷ [])

  abbrev tied_both : GName → GName → (List ℕ → List ℕ → List ℕ) → Fml
  tied_both = follows_both (Array u64 0) (Array u64 0) (Array u64 0) γ

  abbrev pub LentThree : GName × GName → SProp 𝓤
  LentThree γs = sep 𝓤 (sem 𝓛 read_lent) (sep 𝓤 (sem 𝓛 (frame_lent work γs.0)) (sep 𝓤 (sem 𝓛 (frame_lent write γs.1)) (sep 𝓤 (A.lft κ q) (sem 𝓛 (tied_both γs.0 γs.1 all_written)))))

  pub lends_three : end_of read ≤ length xs → end_of work ≤ length xs → end_of write ≤ length xs → AreApart read work → AreApart read write → AreApart work write → Room u64 (length xs) → (vs : List Val)
      → ent 𝓤 (sep 𝓤 (sem 𝓛 ((MutSlice ℓ κ u64).own_val (record { ref_ptr = (b, o); ghost_name = γ; now = xs }) vs)) (A.lft κ q)) (H.⇛ (ex 𝓤 LentThree))
  lends_three hr hk hw read_work read_write (inl first) rm vs =
      let same : (v w : List ℕ) → both_written 𝓛 ℓ κ q b o γ xs read work write v w ≡ all_written v w = λ v w.
      let one = length-take work.len v in let two = length-take write.len w in
      written_high_after work.at (take work.len v) write.at (take write.len w) xs (omega (arith, one, first)) (omega (arith, two, hw)) in
      qed 𝓛 (‵ ((MutSlice ℓ κ u64).own_val (record { ref_ptr = (b, o); ghost_name = γ; now = xs }) vs) ∷ ‵ (flft κ q) ∷ []) ∵ updating ! $
      use2 𝓛 (later (some (λ (γs : GName × GName). ‵ read_lent ⊛ ‵ (frame_lent work γs.0) ⊛ ‵ (frame_lent write γs.1) ⊛ ‵ (flft κ q) ⊛ ‵ (tied_both γs.0 γs.1 (both_written 𝓛 ℓ κ q b o γ xs read work write)))))
      (lends_two 𝓛 ℓ κ q b o γ xs read work write hr hw first read_work read_write rm vs) $ await ! tt $ pick ! (λ γs. split3 ! $ move ! (2 ∷ []) $ split3 ! $ move ! (2 ∷ []) $
      rewrite ! 0 (λ (h : List ℕ → List ℕ → List ℕ). ‵ (tied_both γs.0 γs.1 h)) (λ i v w. same v w i) refl $
      now ! $ show ! LentThree γs $ move ! (3 ∷ 4 ∷ 1 ∷ 2 ∷ 0 ∷ []) $ done !)
  lends_three hr hk hw read_work read_write (inr first) rm vs =
      let same : (v w : List ℕ) → both_written 𝓛 ℓ κ q b o γ xs read write work w v ≡ all_written v w = λ v w.
      let one = length-take work.len v in let two = length-take write.len w in
      written_low_after write.at (take write.len w) work.at (take work.len v) xs (omega (arith, two, first)) (omega (arith, one, hk)) in
      qed 𝓛 (‵ ((MutSlice ℓ κ u64).own_val (record { ref_ptr = (b, o); ghost_name = γ; now = xs }) vs) ∷ ‵ (flft κ q) ∷ []) ∵ updating ! $
      use2 𝓛 (later (some (λ (γs : GName × GName). ‵ read_lent ⊛ ‵ (frame_lent write γs.0) ⊛ ‵ (frame_lent work γs.1) ⊛ ‵ (flft κ q) ⊛ ‵ (tied_both γs.0 γs.1 (both_written 𝓛 ℓ κ q b o γ xs read write work)))))
      (lends_two 𝓛 ℓ κ q b o γ xs read write work hr hk first read_write read_work rm vs) $ await ! tt $ pick ! (λ γs. split3 ! $ move ! (2 ∷ []) $ split3 ! $ move ! (2 ∷ []) $
      use1 𝓛 (‵ (tied_both γs.1 γs.0 (λ v w. both_written 𝓛 ℓ κ q b o γ xs read write work w v))) (both_swapped 𝓛 γ γs.0 γs.1 (both_written 𝓛 ℓ κ q b o γ xs read write work)) $
      rewrite ! 0 (λ (h : List ℕ → List ℕ → List ℕ). ‵ (tied_both γs.1 γs.0 h)) (λ i v w. same v w i) refl $
      now ! $ show ! LentThree (γs.1, γs.0) $ move ! (3 ∷ 1 ∷ 4 ∷ 2 ∷ 0 ∷ []) $ done !)

-- a pair is made of what its two values own
abbrev pub pair_val : Val → Val → Val
pair_val u v = vstruct (vcons u (vcons v vnil))

pub pair_made : {M : Type 1} {𝓤 : Ura M} (𝓛 : Logic 𝓤) (R S : RattleType) (x : R.Denot) (y : S.Denot) (u v : Val)
    → ent 𝓤 (sep 𝓤 (sem 𝓛 (R.own_val x (u ∷ []))) (sem 𝓛 (S.own_val y (v ∷ [])))) (sem 𝓛 ((Tuple (R ∷ S ∷ [])).own_val (x, y) (pair_val u v ∷ [])))
pair_made 𝓛 R S x y u v =
    qed 𝓛 (‵ (R.own_val x (u ∷ [])) ∷ ‵ (S.own_val y (v ∷ [])) ∷ []) ∵ nothing ! $ move ! (2 ∷ 0 ∷ []) $ fjoin ! $ move ! (1 ∷ 0 ∷ []) $ fjoin ! $
    feq_i ! (List Val) (pair_val u v ∷ []) (pair_val u v ∷ []) refl $ fjoin ! $
    fpack ! (Valss (R ∷ S ∷ [])) (within (shape (tuple_type (R ∷ S ∷ []))) (x, (y, tt)) (pair_val u v ∷ [])) (u ∷ [], (v ∷ [], tt)) $ done !

abbrev pub triple_val : Val → Val → Val → Val
triple_val u v w = vstruct (vcons u (vcons v (vcons w vnil)))

pub triple_made : {M : Type 1} {𝓤 : Ura M} (𝓛 : Logic 𝓤) (R S T : RattleType) (x : R.Denot) (y : S.Denot) (z : T.Denot) (u v w : Val)
    → ent 𝓤 (sep 𝓤 (sem 𝓛 (R.own_val x (u ∷ []))) (sep 𝓤 (sem 𝓛 (S.own_val y (v ∷ []))) (sem 𝓛 (T.own_val z (w ∷ []))))) (sem 𝓛 ((Tuple (R ∷ S ∷ T ∷ [])).own_val (x, y, z) (triple_val u v w ∷ [])))
triple_made 𝓛 R S T x y z u v w =
    qed 𝓛 (‵ (R.own_val x (u ∷ [])) ∷ ‵ (S.own_val y (v ∷ [])) ∷ ‵ (T.own_val z (w ∷ [])) ∷ []) ∵ nothing ! $ move ! (3 ∷ 0 ∷ []) $ fjoin ! $ move ! (2 ∷ 0 ∷ []) $ fjoin ! $ move ! (1 ∷ 0 ∷ []) $ fjoin ! $
    feq_i ! (List Val) (triple_val u v w ∷ []) (triple_val u v w ∷ []) refl $ fjoin ! $
    fpack ! (Valss (R ∷ S ∷ T ∷ [])) (within (shape (tuple_type (R ∷ S ∷ T ∷ []))) (x, (y, (z, tt))) (triple_val u v w ∷ [])) (u ∷ [], (v ∷ [], (w ∷ [], tt))) $ done !
