-- The loop goes down the wrappers. What each turn lends follows the lender. Assumes `Logic`.
use Rattle.snap_content.proofs.Prelude.{◌≡◌, ℕ, ◌<◌, List, [], ◌∷◌, refl, sym, ap, ◌∙◌, Bool, true, false, Box, Global, MutBor, ⊤, with_value, named, place, Val, vptr, tree, resolved, wraps, rewrapped, LendsTree, box_row, with_wrapped, Content}
use Rattle.std.proofs.raw_atomic.Walks.{proved}
use Rattle.std.proofs.VecSteps.Shapes.{after}
use mathlib.Core.WellFounded.InvImage
use seplogic.Ra.Ura.{Ura}
use lib.Dec.{T}
use mathlib.Core.Bool.{not}
use lib.WfN.{lt-wf_rel}
use base.Fraction.{full_share}
use base.Logic.{SProp, ent, sep, emp, id⊢}
use base.Fml.{Lft, Share, GName, Fml, ftrue, flft, flent}
use prog.Model.{Model}
use prog.Wired.{Wired}
use prog.Wp.{Env, Out, Wp, WpFn, at_return, after_seq, after_block, after_turn}
use types.Logic.{Logic, sem}
use contract.Monad.{fact, fact_i}
use contract.Running.{Running, MachineTables, tables, tables_of}
use types.Kit.{Item, Sq, any_q, runs, settles, ‵, raw, ◌⊛◌, some, later, at_ret, ◌$◌, ◌∵◌, !, qed, move, keep, drop, use0, use1, use2, split, join, fsplit3, fjoin, fjoin3, fpack, feq_i, feq_l, pick, await, rewrite, regoal, suffices, frame, done}
use types.Run.{stop, addr, of_opd, no_more, and_then, first, blocks, skips, jumps, branches, exec, returns, enter, loops, again, Below}
use types.ByLocal.{alloc_all, pass_all, free_all, look_at, get, through, sets, lands_as, lands_last, env, holding, forget_but}
use types.Mut.{open_ref, close_ref}
use types.Tokens.{lft_new, lft_end, lent_back}
use borrow.Follows.Kept.{follows_itself}
use denote.RattleType.{RattleType}
use denote.Builtin.{bool}
use denote.Exit.{no}
use denote.Follow.{follows, follows_then, such_by, follows_by}
use denote.Lend.{lends_shr}
use denote.Laws.{shows}
use denote.Memory.{mem, part_at}
use denote.Plain.{bool_Tells}
use denote.Ref.{MutRef, ShrRef, mut_vals, mut_Tells}
use denote.Signature.{plain, mut_ref_to}
use denote.Steps.{nothing, facts, heard, only}
use denote.Triple.Call.{calls_at, calls_at_last}
use denote.Triple.Clauses.{Clauses, lasts}
use denote.Triple.Entry.{on_entry}
use denote.Triple.Spec.{triple_of}
use denote.Triple.Table.{framed}
use denote.Triple.Walked.{Stays, stay_dropped, walk_of, says, ends_at, Goes-spent_ref}
use Rattle.snap_content.specs.contracts.content.Content.{the_row as R}
use Rattle.snap_content.specs.contracts.content.Content.resolve_inner_mut as f
use Rattle.snap_content.specs.contracts.content.Content.is_wrapper as tests
use Rattle.snap_content.specs.contracts.content.Content.wrapped_mut as opens
use Rattle.snap_content.specs.contracts.content.Content.unboxed_mut as unboxes
use Rattle.snap_content.proofs.content.Content.TheLaws.{the_row_laws, the_within}
use Rattle.snap_content.proofs.content.Content.is_wrapper.Met as tests-thm
use Rattle.snap_content.proofs.content.Content.wrapped_mut.Met as opens-thm
use Rattle.snap_content.proofs.content.Content.unboxed_mut.Met as unboxes-thm
use Rattle.snap_content.proofs.content.Content.resolve_inner_mut.Statement.{statement}
use Rattle.snap_content.proofs.content.Content.resolve_inner_mut.Code as code
use Rattle.snap_content.proofs.Rewrapped.{depth, resolved_stops, rewrapped_stops, resolved_held, depth_held, rewrapped_held}

is_yes : (b : Bool) → T b → b ≡ true
is_yes true t = refl
is_yes false t = absurd t

is_no : (b : Bool) → T (not b) → b ≡ false
is_no true t = absurd t
is_no false t = refl

abbrev stayed : Stays f.ended.signature.params f.ended.kept
stayed = (stay_dropped (mut_ref_to (0 ∷ []) tt (plain (λ _. R))) no, tt)

-- how far the loop has come in c: the reference that it holds, and what c becomes once that shows w last
record State (c : Content) : Type 0 where
  pub block : ℕ
  pub offset : ℕ
  pub name : GName
  pub value : Content
  pub back : Content → Content
  pub same : (w last : Content) → tree w ≡ rewrapped (tree value) (tree last) → tree (back w) ≡ rewrapped (tree c) (tree last)
  pub behind : resolved (tree value) ≡ resolved (tree c)

module _ {M : Type 1} {𝓤 : Ura M} (𝓛 : Logic 𝓤) (𝓜 : Model 𝓤 𝓛.H) (𝓡 : Running 𝓤 𝓛.H 𝓜) (wired : Wired 𝓡.env code.code) (κ : Lft) (q : Share) (r : MutBor Content) where
  open 𝓛 use {H}

  abbrev 𝓣 : MachineTables 𝓤 H 𝓜
  𝓣 = tables 𝓤 H 𝓜 𝓡 𝓡.env

  abbrev c : Clauses 𝓤 f.ended
  c = f.clauses 𝓛 𝓜.mem 𝓡.returns

  abbrev y : (walk_of 𝓛 f.ended stayed c).Ghost
  y = (((κ, tt), (q, tt), tt, (r, tt), (mut_vals r, tt)), tt)

  abbrev Post : Val → SProp 𝓤
  Post = (walk_of 𝓛 f.ended stayed c).post y

  abbrev Lent : (Q : RattleType) → GName → ℕ → ℕ → Q.Denot → Fml
  Lent Q δ b o h = (MutRef (named 0) κ Q).own_val (record { ref_ptr = (b, o); ghost_name = δ; now = h }) (vptr b o ∷ [])

  told : (t : State r.now) → ((w : Content) → tree (t.back w) ≡ rewrapped (tree r.now) (tree w))
      → ent 𝓤 (sem 𝓛 (follows R R r.ghost_name t.name t.back)) (sem 𝓛 (LendsTree r (record { ref_ptr = (t.block, t.offset); ghost_name = t.name; now = t.value }) (rewrapped (tree r.now))))
  unfolding such_by follows_by
  told t same = qed 𝓛 (‵ (follows R R r.ghost_name t.name t.back) ∷ []) ∵
      fpack ! ((s : (Content → Content) × Content) × ((w : Content) → tree (s.0 w) ≡ rewrapped (tree r.now) (tree w)) × ⊤)
      (λ s. follows R R r.ghost_name t.name s.0.0) ((t.back, r.now), same, tt) $ done !

  module _ (l : ℕ → ℕ) where
    abbrev En : Env 𝓤 H
    En = env code.function.locals l

    abbrev Now : State r.now → List (Item 𝓤)
    Now t = ‵ (Lent R t.name t.block t.offset t.value) ∷ ‵ (flft κ q) ∷ ‵ (follows R R r.ghost_name t.name t.back)
        ∷ holding 𝓛 En ((1, vptr r.ref_ptr.0 r.ref_ptr.1) ∷ (2, vptr t.block t.offset) ∷ [])

    abbrev Nearer : State r.now → State r.now → Type 0
    Nearer t u = depth (tree t.value) < depth (tree u.value)

    abbrev Turned : State r.now → Out → SProp 𝓤
    Turned t = after_turn 𝓤 H (Below 𝓛 Nearer Now t) (after_block 𝓤 H (after_seq 𝓤 H (Wp 𝓤 H 𝓣.C 𝓣.Λ En code.Mir.t-3 (at_return 𝓤 H En Post)) (at_return 𝓤 H En Post)))

    turns : (t : State r.now) → Sq 𝓛 (Now t) (runs 𝓣.C 𝓣.Λ En code.Mir.turn-1 (any_q (Turned t)))
    unfolding after_turn
    turns t =
        let b = t.block in let o = t.offset in let h = t.value in
        sets ! (addr ! (through ! refl (stop !))) refl (tt, tt) $
        fsplit3 ! $ feq_l ! (λ _. open_ref ! tt (mem R) $ lft_new ! tt (λ α. move ! (1 ∷ 0 ∷ []) $
        use2 𝓛 (later ((‵ ((ShrRef (named 0) (α ∷ []) R).own_val (record { ref_ptr = (b, o); now = h }) (vptr b o ∷ [])) ⊛ ‵ (flent (α ∷ []) (part_at R full_share h b o))) ⊛ ‵ (flft (α ∷ []) full_share)))
        (lends_shr 𝓛 R (named 0) (α ∷ []) full_share h b o R.lives (the_row_laws.shares 𝓛 h) ((α ∷ [], full_share) ∷ []) (the_within (α ∷ [])) (λ x m. m)) $ await ! tt $ split ! $ split ! $
        -- [the `&`; the way back; the token of α; the open borrow; its name, in two entries; what follows; the locals]
        let G₁ = triple_of 𝓛 tests.signature (tests.spec 𝓛 𝓜.mem 𝓡.returns) in
        let z₁ : G₁.Ghost = (((α ∷ [], tt), (full_share, tt), tt, (record { ref_ptr = (b, o); now = h }, tt), (vptr b o ∷ [], tt)), tt) in
        nothing ! $ move ! (1 ∷ 0 ∷ []) $ join ! $ nothing ! $ move ! (3 ∷ 0 ∷ []) $ join ! $ join ! $ nothing ! $ move ! (1 ∷ 0 ∷ []) $ use2 𝓛 (raw (G₁.pre z₁)) (id⊢ 𝓤 _) $
        calls_at ! (framed 𝓤 H 𝓜 𝓣) G₁ (tests-thm.met 𝓤 𝓛 𝓜 𝓡 (code.calls-snap_content::content::Content::is_wrapper 𝓡.env wired)) z₁ (and_then ! (get ! refl) (no_more !)) (λ v.
        use1 𝓛 (later (some (λ (yes : Bool). ((‵ (flft (α ∷ []) full_share) ⊛ ‵ ftrue) ⊛ ‵ (bool.own_val yes (v ∷ []))) ⊛
        some (λ (ws : Unit {0} × Unit {0}). ‵ (lasts tests.ended z₁.0.0 z₁.0.3 ws) ⊛ raw (fact 𝓤 (yes ≡ wraps (tree h))))))) (id⊢ 𝓤 _) $
        await ! tt $ pick ! (λ yes. split ! $ split ! $ split ! $ lft_end ! tt $ move ! (2 ∷ []) $ facts ! bool _ (shows 𝓛 bool) yes (v ∷ []) (λ is.
        lands_as ! (ap only (bool_Tells yes (v ∷ []) is)) refl (tt, tt) $ move ! (2 ∷ []) $ pick ! (λ ws. split ! $ drop ! $ heard ! _ (λ as_said.
        -- [α is over; nothing; the way back; the open borrow; its name; what follows; the locals]
        move ! (0 ∷ 2 ∷ []) $ lent_back ! tt $ move ! (0 ∷ 2 ∷ 3 ∷ 4 ∷ []) $ close_ref ! tt (mem R) h $ move ! (3 ∷ []) $ drop ! $
        first ! $ branches ! (get ! refl)
        (λ wrapper. let is_wrapper : wraps (tree h) ≡ true = sym as_said ∙ is_yes yes wrapper in
        skips ! $ exec ! 𝓣.C 𝓣.Λ En (after 3 code.Mir.turn-1) (any_q (Turned t)) $
        sets ! (addr ! (through ! refl (stop !))) refl (tt, tt) $
        feq_i ! (List Val) (vptr b o ∷ []) (vptr b o ∷ []) refl $ fjoin3 ! $
        -- [the reference; the token; what follows; the locals]
        let G₂ = triple_of 𝓛 opens.signature (opens.spec 𝓛 𝓜.mem 𝓡.returns) in
        let z₂ : G₂.Ghost = (((κ, tt), (q, tt), tt, (record { ref_ptr = (b, o); ghost_name = t.name; now = h }, tt), (vptr b o ∷ [], tt)), tt) in
        nothing ! $ move ! (1 ∷ 0 ∷ []) $ join ! $ nothing ! $ move ! (2 ∷ 0 ∷ []) $ join ! $ join ! $
        use0 𝓛 (raw (fact 𝓤 (wraps (tree h) ≡ true))) (fact_i 𝓤 (wraps (tree h) ≡ true) (emp 𝓤) is_wrapper) $ move ! (1 ∷ 0 ∷ []) $ use2 𝓛 (raw (G₂.pre z₂)) (id⊢ 𝓤 _) $
        calls_at ! (framed 𝓤 H 𝓜 𝓣) G₂ (opens-thm.met 𝓤 𝓛 𝓜 𝓡 (code.calls-snap_content::content::Content::wrapped_mut 𝓡.env wired)) z₂ (and_then ! (get ! refl) (no_more !)) (λ v₂.
        use1 𝓛 (later (some (λ (x : MutBor (Box Content Global)). ((‵ (flft κ q) ⊛ ‵ ftrue) ⊛ ‵ ((MutRef (named 0) κ box_row).own_val x (v₂ ∷ []))) ⊛
        some (λ (ws : Unit {0} × Unit {0}). ‵ (lasts opens.ended z₂.0.0 z₂.0.3 ws) ⊛ (‵ (follows R box_row t.name x.ghost_name (with_wrapped h)) ⊛ raw (fact 𝓤 (with_wrapped h x.now ≡ h))))))) (id⊢ 𝓤 _) $
        await ! tt $ pick ! (λ x. split ! $ split ! $ split ! $ move ! (2 ∷ []) $ fsplit3 ! $ feq_l ! (λ at_x.
        lands_as ! (ap only at_x) refl (tt, tt) $
        feq_i ! (List Val) (vptr x.ref_ptr.0 x.ref_ptr.1 ∷ []) (vptr x.ref_ptr.0 x.ref_ptr.1 ∷ []) refl $ fjoin3 ! $
        move ! (3 ∷ []) $ pick ! (λ ws₂. split ! $ drop ! $ split ! $ move ! (1 ∷ []) $ heard ! _ (λ held.
        -- [the box follows; the box; the token; nothing; what follows; the locals]
        move ! (4 ∷ 0 ∷ []) $ use2 𝓛 (‵ (follows R box_row r.ghost_name x.ghost_name (λ w. t.back (with_wrapped h w)))) (follows_then 𝓛 R R box_row t.back (with_wrapped h) r.ghost_name t.name x.ghost_name) $
        move ! (3 ∷ []) $ drop ! $ move ! (1 ∷ []) $
        -- [the box; what follows; the token; the locals]
        let G₃ = triple_of 𝓛 unboxes.signature (unboxes.spec 𝓛 𝓜.mem 𝓡.returns) in
        let z₃ : G₃.Ghost = (((κ, tt), (q, tt), tt, (x, tt), (mut_vals x, tt)), tt) in
        nothing ! $ move ! (1 ∷ 0 ∷ []) $ join ! $ nothing ! $ move ! (3 ∷ 0 ∷ []) $ join ! $ join ! $ nothing ! $ move ! (1 ∷ 0 ∷ []) $ use2 𝓛 (raw (G₃.pre z₃)) (id⊢ 𝓤 _) $
        calls_at_last ! (framed 𝓤 H 𝓜 𝓣) G₃ (unboxes-thm.met 𝓤 𝓛 𝓜 𝓡 (code.calls-snap_content::content::Content::unboxed_mut 𝓡.env wired)) z₃ (and_then ! (get ! refl) (no_more !)) (λ v₃.
        use1 𝓛 (later (some (λ (n : MutBor Content). ((‵ (flft κ q) ⊛ ‵ ftrue) ⊛ ‵ ((MutRef (named 0) κ R).own_val n (v₃ ∷ []))) ⊛
        some (λ (ws : Unit {0} × Unit {0}). ‵ (lasts unboxes.ended z₃.0.0 z₃.0.3 ws) ⊛ (‵ (follows box_row R x.ghost_name n.ghost_name (with_value x.now)) ⊛ raw (fact 𝓤 (n.now ≡ x.now.value))))))) (id⊢ 𝓤 _) $
        await ! tt $ pick ! (λ n. split ! $ split ! $ split ! $ move ! (2 ∷ []) $ fsplit3 ! $ feq_l ! (λ at_n.
        feq_i ! (List Val) (vptr n.ref_ptr.0 n.ref_ptr.1 ∷ []) (vptr n.ref_ptr.0 n.ref_ptr.1 ∷ []) refl $ fjoin3 ! $
        move ! (3 ∷ []) $ pick ! (λ ws₃. split ! $ drop ! $ split ! $ move ! (1 ∷ []) $ heard ! _ (λ same.
        -- [its value follows; its value; the token; nothing; what follows; the locals]
        move ! (4 ∷ 0 ∷ []) $
        use2 𝓛 (‵ (follows R R r.ghost_name n.ghost_name (λ w. t.back (with_wrapped h (with_value x.now w)))))
        (follows_then 𝓛 R box_row R (λ w. t.back (with_wrapped h w)) (with_value x.now) r.ghost_name x.ghost_name n.ghost_name) $
        move ! (3 ∷ []) $ drop ! $ move ! (1 ∷ 2 ∷ 0 ∷ []) $
        rewrite ! 0 (λ (now : Content). ‵ (Lent R n.ghost_name n.ref_ptr.0 n.ref_ptr.1 now)) same refl $
        regoal ! (λ (u : Val). settles En (place 2 []) u (any_q (Turned t))) (ap only at_n) refl $
        lands_last ! refl (tt, tt) $ forget_but ! En (1 ∷ 2 ∷ []) refl $
        again ! Nearer Now t (record {
          block = n.ref_ptr.0;
          offset = n.ref_ptr.1;
          name = n.ghost_name;
          value = x.now.value;
          back = λ w. t.back (with_wrapped h (with_value x.now w));
          same = λ w last g. t.same (with_wrapped h (with_value x.now w)) last (rewrapped_held h x.now held is_wrapper w last g);
          behind = resolved_held h x.now held is_wrapper ∙ t.behind;
        }) (depth_held h x.now held is_wrapper))))))))))))
        (λ bare. let is_bare : wraps (tree h) ≡ false = sym as_said ∙ is_no yes bare in
        jumps ! $ exec ! 𝓣.C 𝓣.Λ En code.Mir.t-3 (at_ret En Post) $
        sets ! (addr ! (through ! refl (stop !))) refl (tt, tt) $ returns ! (look_at ! 0 refl) $ free_all ! refl $
        feq_i ! (List Val) (vptr b o ∷ []) (vptr b o ∷ []) refl $ fjoin3 ! $
        move ! (2 ∷ []) $ use1 𝓛 (‵ (LendsTree r (record { ref_ptr = (b, o); ghost_name = t.name; now = h }) (rewrapped (tree r.now)))) (told t (λ w. t.same w w (rewrapped_stops (tree h) (tree w) is_bare))) $ move ! (1 ∷ 2 ∷ 0 ∷ []) $
        -- [the reference; the token; what follows]
        nothing ! $ nothing ! $ fjoin ! $ join ! $ nothing ! $ move ! (2 ∷ 0 ∷ []) $ join ! $ join ! $
        suffices ! _ (ends_at 𝓛 f.ended stayed c y (vptr b o) (record { ref_ptr = (b, o); ghost_name = t.name; now = h }) (tt, tt) (tt, tt)) $
        frame ! $ says ! (resolved_stops (tree h) is_bare ∙ t.behind) $ done !))))))))

  walk : ent 𝓤 (sep 𝓤 (on_entry 𝓛 f.signature y.0.0 y.0.1 y.0.3 y.0.4) (emp 𝓤)) (WpFn 𝓤 H 𝓣.C 𝓣.Λ code.function (mut_vals r) Post)
  unfolding tables_of
  walk =
      qed 𝓛 (((‵ (flft κ q) ⊛ ‵ ftrue) ⊛ ‵ (Lent R r.ghost_name r.ref_ptr.0 r.ref_ptr.1 r.now) ⊛ ‵ ftrue) ∷ ‵ ftrue ∷ []) ∵
      split ! $ split ! $ move ! (2 ∷ []) $ split ! $ keep ! (0 ∷ 2 ∷ []) $
      enter ! _ _ _ _ _ $ alloc_all ! (λ l. pass_all ! refl ((tt, tt), tt) $
      sets ! (of_opd ! (get ! refl)) refl (tt, tt) $
      use0 𝓛 (‵ (follows R R r.ghost_name r.ghost_name (λ w. w))) (follows_itself 𝓛 R r.ghost_name) $ move ! (1 ∷ 2 ∷ []) $
      first ! $ blocks ! $ loops ! (tables_of 𝓤 H 𝓜 𝓣) (Nearer l) (InvImage.wf (λ (t : State r.now). depth (tree t.value)) lt-wf_rel.wf) (Now l) (turns l)
      (record { block = r.ref_ptr.0; offset = r.ref_ptr.1; name = r.ghost_name; value = r.now; back = λ w. w; same = λ w last g. g; behind = refl }))

pub resolve_inner_mut_spec : {M : Type 1} → statement M
resolve_inner_mut_spec 𝓤 𝓛 𝓜 𝓡 wired =
    let c = f.clauses 𝓛 𝓜.mem 𝓡.returns in let 𝓣 = tables 𝓤 𝓛.H 𝓜 𝓡 𝓡.env in
    proved 𝓛 f.ended stayed c 𝓜 𝓡 (Goes-spent_ref 𝓛 1 (0 ∷ []) tt (plain (λ _. R)), tt)
    f.Key.name code.function (code.unfolded 𝓤 𝓛.H 𝓜 𝓡 wired)
    (λ κs. (mut_vals, tt)) (λ κs. (mut_Tells (named 0) κs.0 R, tt)) (λ κs qs bounds a _ are. walk 𝓛 𝓜 𝓡 wired κs.0 qs.0 a.0)
