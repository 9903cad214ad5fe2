use Rattle.snap_io.proofs.Prelude.{refl, Ura, Val, vptr, vstruct, vnil, SProp, ent, emp, via, fst∗, Memory, Routine, Calls, Loops, WpFn, Tables, Logic, Fun, tables, tables_of, WpFn-mono, ‵, raw, ◌$◌, ◌∵◌, !, qed, move, suffices, done, no_more, returns, enter, agg, alloc_all, pass_all, free_all, look_at, sets, owns, pure_i, on_entry, alive, Args, Meets, triple_of, entered, says, stay_none, stay_none_ref, stay_none_slice, Stays, AllGo, walk_of, Walks, ends_at, walked, Goes-none, Goes-none_ref, Goes-none_slice, walk_Meets, ◌<◌, ◌^◌, length}
use mathlib.Core.List.{[], ◌∷◌}
use mir.Syntax.{named}
use base.Fml.{Fml}
use contract.Lifetimes.{Lfts, Shares}
use denote.Builtin.{u8}
use denote.Exit.{yes}
use denote.Ref.{shr_vals, shr_Tells}
use denote.Signature.{plain, types_at}
use denote.Slice.{ShrSlice, slice_val, shr_slice_vals, shr_slice_Tells}
use denote.Such.{such_Tells}
use denote.Text.{StrRefOf, Utf8}
use Rattle.snap_io.specs.contracts.record.Record.with.Key.{name as key}
use Rattle.snap_io.specs.contracts.record.Record.with as f
use Rattle.snap_io.proofs.record.Record.with.Statement as stated
use Rattle.snap_io.proofs.record.Record.with.Code as code
use Rattle.snap_io.specs.contracts.record.Record as made
use Rattle.snap_io.specs.declared.record.Record.{Record}
use Rattle.snap_io.specs.contracts.call.Asked as asked
use Rattle.snap_io.specs.contracts.call.Answer as answer

abbrev stayed : Stays (f.ended).signature.params (f.ended).kept
stayed = (
  stay_none_ref (0 ∷ []) tt (plain (λ _. made.the_row)) yes,
  (
    stay_none_ref (1 ∷ []) tt (plain (λ _. asked.the_row)) yes,
    (
      stay_none_ref (2 ∷ []) tt (plain (λ _. answer.the_row)) yes,
      (
        stay_none ((StrRefOf {n = 5} (3 ∷ []) tt).row) yes,
        (stay_none_slice (4 ∷ []) tt (plain (λ _. u8)) yes, tt),
      ),
    ),
  ),
)

module _ {M : Type 1} {𝓤 : Ura M} (𝓛 : Logic 𝓤) (mem : Memory → SProp 𝓤) (run : Routine → Fun 𝓤) (C : Calls 𝓤 𝓛.H) (Λ : Loops 𝓤 𝓛.H) where
  open 𝓛 use {H}

  module _ (κs : Lfts 5) (qs : Shares 5) (a : Args f.signature κs) where
    abbrev after : Record
    after = record { calls = (a.1.0.now, a.1.1.0.now, a.1.1.1.0.now, a.1.1.1.1.0.now) ∷ a.0.now.calls }

    abbrev before : Val
    before = vptr a.0.ref_ptr.0 a.0.ref_ptr.1

    abbrev what : Val
    what = vptr a.1.0.ref_ptr.0 a.1.0.ref_ptr.1

    abbrev told : Val
    told = vptr a.1.1.0.ref_ptr.0 a.1.1.0.ref_ptr.1

    abbrev path : Val
    path = slice_val a.1.1.1.0.ref_ptr (length a.1.1.1.0.now)

    abbrev bytes : Val
    bytes = slice_val a.1.1.1.1.0.ref_ptr (length a.1.1.1.1.0.now)

    abbrev bound : (walk_of 𝓛 f.ended stayed (f.clauses 𝓛 mem run)).Ghost
    bound = ((κs, qs, tt, a, (before ∷ [], (what ∷ [], (told ∷ [], (path ∷ [], (bytes ∷ [], tt)))))), tt)

    abbrev passed : Fml
    passed = owns (types_at f.signature.params κs) a (before ∷ [], (what ∷ [], (told ∷ [], (path ∷ [], (bytes ∷ [], tt)))))

    walk : length a.1.1.1.0.now < 2 ^ 64 → length a.1.1.1.1.0.now < 2 ^ 64
        → ent 𝓤 (on_entry 𝓛 f.signature κs qs a (before ∷ [], (what ∷ [], (told ∷ [], (path ∷ [], (bytes ∷ [], tt))))))
        (WpFn 𝓤 H C Λ code.function (before ∷ what ∷ told ∷ path ∷ bytes ∷ []) ((walk_of 𝓛 f.ended stayed (f.clauses 𝓛 mem run)).post bound))
    walk fp fb =
        qed 𝓛 (raw (alive 𝓛 f.signature κs qs) ∷ ‵ passed ∷ []) ∵ enter ! C Λ code.function (before ∷ what ∷ told ∷ path ∷ bytes ∷ []) _ $
        alloc_all ! (λ l. pass_all ! refl ((tt, tt), ((tt, tt), ((tt, tt), ((tt, (tt, (record { fits = fp }, tt))), ((tt, (tt, (record { fits = fb }, tt))), tt))))) $
        sets ! (agg ! (no_more !)) refl (tt, tt) $
        returns ! (look_at ! 0 refl) $ free_all ! refl $
        suffices ! _ (ends_at 𝓛 f.ended stayed (f.clauses 𝓛 mem run) bound (vstruct vnil) after (tt, (tt, (tt, (tt, (tt, tt))))) (tt, (tt, (tt, (tt, (tt, tt)))))) $
        says ! refl $ pure_i ! (made.the_row.own_val after (vstruct vnil ∷ [])) ((λ vss. (tt, tt)), tt) ((tt, (refl, tt)), tt) $
        move ! (1 ∷ 2 ∷ 0 ∷ []) $ done !)

  walks : Walks 𝓛 f.ended stayed (WpFn 𝓤 H C Λ code.function) (f.clauses 𝓛 mem run)
  walks =
      walked 𝓛 f.ended stayed (f.clauses 𝓛 mem run) (WpFn 𝓤 H C Λ code.function) (λ κs. (shr_vals, (shr_vals, (shr_vals, (shr_slice_vals, (shr_slice_vals, tt))))))
      (λ κs. (
        shr_Tells (named 0) κs.0 made.the_row,
        (
          shr_Tells (named 1) κs.1.0 asked.the_row,
          (
            shr_Tells (named 2) κs.1.1.0 answer.the_row,
            (
              such_Tells (ShrSlice (named 3) κs.1.1.1.0 u8) (λ x. Utf8 x.now) (λ x cs. (tt, tt)) shr_slice_vals (shr_slice_Tells (named 3) κs.1.1.1.0 u8),
              (shr_slice_Tells (named 4) κs.1.1.1.1.0 u8, tt),
            ),
          ),
        ),
      ))
      (λ κs qs bounds a g are. via 𝓤 _ (fst∗ 𝓤 _ (emp 𝓤)) (walk κs qs a are.1.1.1.0.0.0.1.0 are.1.1.1.1.0.0.1.0))

  goes : AllGo 𝓛 5 (f.signature).params (f.ended).kept stayed
  goes = (
    Goes-none_ref 𝓛 5 (0 ∷ []) tt (plain (λ _. made.the_row)) yes,
    (
      Goes-none_ref 𝓛 5 (1 ∷ []) tt (plain (λ _. asked.the_row)) yes,
      (
        Goes-none_ref 𝓛 5 (2 ∷ []) tt (plain (λ _. answer.the_row)) yes,
        (
          Goes-none 𝓛 5 ((StrRefOf {n = 5} (3 ∷ []) tt).row) yes (λ κs x f. refl),
          (Goes-none_slice 𝓛 5 (4 ∷ []) tt (plain (λ _. u8)) yes, tt),
        ),
      ),
    ),
  )

meets : {M : Type 1} {𝓤 : Ura M} (𝓛 : Logic 𝓤) (mem : Memory → SProp 𝓤) (run : Routine → Fun 𝓤) (𝓣 : Tables 𝓤 𝓛.H)
    → Meets 𝓛 f.signature (WpFn 𝓤 𝓛.H 𝓣.C 𝓣.Λ code.function) (f.spec 𝓛 mem run)
meets {𝓤 = 𝓤} 𝓛 mem run 𝓣 =
    walk_Meets 𝓛 f.ended stayed (goes 𝓛 mem run 𝓣.C 𝓣.Λ) (f.clauses 𝓛 mem run) (WpFn 𝓤 𝓛.H 𝓣.C 𝓣.Λ code.function)
    (WpFn-mono 𝓤 𝓛.H 𝓛.laws 𝓣 code.function) (walks 𝓛 mem run 𝓣.C 𝓣.Λ)

pub with_spec : {M : Type 1} → stated.statement M
unfolding tables_of
with_spec 𝓤 𝓛 𝓜 𝓡 wired =
    entered 𝓤 𝓛.H (triple_of 𝓛 f.signature (f.spec 𝓛 𝓜.mem 𝓡.returns))
    (tables 𝓤 𝓛.H 𝓜 𝓡 𝓡.env).C (tables 𝓤 𝓛.H 𝓜 𝓡 𝓡.env).Λ key code.function (code.unfolded 𝓤 𝓛.H 𝓜 𝓡 wired)
    (meets 𝓛 𝓜.mem 𝓡.returns (tables_of 𝓤 𝓛.H 𝓜 (tables 𝓤 𝓛.H 𝓜 𝓡 𝓡.env)))
