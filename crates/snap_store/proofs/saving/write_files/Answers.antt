use Rattle.snap_store.proofs.Prelude.{◌∙◌, refl, ap, subst, List, [], ◌∷◌, Some}
use Rattle.std.proofs.Common.{IfErr}
use Rattle.std.proofs.lemmas.Result.{err_from_is_err_and, IfErr-weaker}
use Rattle.snap_io.specs.Changes.{Change, writes, all_changed}
use Rattle.snap_io.specs.StandsAfter.{StandsAfter}
use Rattle.snap_io.proofs.Standing.{nothing_begun, stands_first, stands_later, both_done}
use Rattle.snap_store.specs.Causes.{named_by}
use Rattle.snap_store.specs.Saving.{saving}
use Rattle.snap_store.specs.Views.{contents_in}
use Rattle.snap_store.proofs.Saved.{one_file, two_files}
use Rattle.snap_store.proofs.Written.{text_sent, at_ok}
use Rattle.snap_store.proofs.saving.write_files.Goals as goal

pub returns-in_err-own-clause-stopped : goal.returns-in_err-own-clause-stopped
returns-in_err-own-clause-stopped g c = λ meta kinds made.
    let told = err_from_is_err_and c.from_residual.result c.from_residual.ensures.1 in
    rw (told.1, told.2) (nothing_begun (saving c.args.path.now meta (contents_in c.args.snapshot.now)) _ _ refl)

pub returns-in_err-beside-in-Some-clause-stopped : goal.returns-in_err-beside-in-Some-clause-stopped
returns-in_err-beside-in-Some-clause-stopped g c = λ meta kinds made.
    let told = err_from_is_err_and c.from_residual-in_err-beside-in-Some.result c.from_residual-in_err-beside-in-Some.ensures.1 in
    rw (told.1, told.2) (nothing_begun (saving c.args.path.now meta (contents_in c.args.snapshot.now)) _ _ refl)

pub returns-in_err-write-in-Some-clause-stopped : goal.returns-in_err-write-in-Some-clause-stopped
returns-in_err-write-in-Some-clause-stopped g c = λ meta kinds made.
    let told = err_from_is_err_and c.from_residual-in_err-write-in-Some.result c.from_residual-in_err-write-in-Some.ensures.1 in
    let sent = text_sent _ _ _ _ c.as_str.utf8 c.as_str.ensures refl c.as_bytes-bytes.ensures.value in
    let bytes = c.in-Some.payload.bytes.now in
    let P : List Change → Type 0 = λ cs. StandsAfter cs (named_by c.in_err-write-in-Some.field-0.0) (g.S.Store.files c.args.store.now) (g.S.Store.files c.write-in-Some.new.store) in
    rw (told.1, told.2)
    (subst P (two_files c.args.path.now c.in_ok-own.own c.args.text.now c.as_bytes-bytes.result.now c.in_ok-beside-in-Some.beside c.in-Some.payload.extension.now bytes bytes meta (contents_in c.args.snapshot.now) _
    c.in_ok-own.ensures sent c.in_ok-beside-in-Some.ensures refl c.in-Some.ensures kinds made)
    (stands_first (writes c.in_ok-own.own c.as_bytes-bytes.result.now ∷ []) (writes c.in_ok-beside-in-Some.beside bytes ∷ []) _ _ _ c.in_err-write-in-Some.ensures.stopped))

pub returns-in-None-clause-written : goal.returns-in-None-clause-written
returns-in-None-clause-written g c =
    at_ok c.write.result (λ written. λ meta kinds made m told.
    written m told
    ∙ ap (λ cs. Some (all_changed cs m))
    (one_file c.args.path.now _ c.args.text.now _ meta (contents_in c.args.snapshot.now) _ c.in_ok-own.ensures (text_sent _ _ _ _ c.as_str.utf8 c.as_str.ensures refl c.as_bytes-bytes.ensures.value) kinds made c.in-None.ensures))
    c.write.ensures.written

pub returns-in-None-clause-stopped : goal.returns-in-None-clause-stopped
returns-in-None-clause-stopped g c = λ meta kinds made.
    let sent = text_sent _ _ _ _ c.as_str.utf8 c.as_str.ensures refl c.as_bytes-bytes.ensures.value in
    let P : List Change → Type 0 = λ cs. IfErr c.write.result (λ error. StandsAfter cs (named_by error) (g.S.Store.files c.args.store.now) (g.S.Store.files c.write.new.store)) in
    subst P
    (one_file c.args.path.now c.in_ok-own.own c.args.text.now c.as_bytes-bytes.result.now meta (contents_in c.args.snapshot.now) _ c.in_ok-own.ensures sent kinds made c.in-None.ensures)
    c.write.ensures.stopped

pub returns-in_ok-write-in-Some-clause-written : goal.returns-in_ok-write-in-Some-clause-written
returns-in_ok-write-in-Some-clause-written g c =
    let sent = text_sent _ _ _ _ c.as_str.utf8 c.as_str.ensures refl c.as_bytes-bytes.ensures.value in
    let first = writes c.in_ok-own.own c.as_bytes-bytes.result.now ∷ [] in
    let second = writes c.in_ok-beside-in-Some.beside c.as_slice.result.now ∷ [] in
    at_ok c.write-in-Some-2.result (λ written. λ meta kinds made m told.
    both_done first second (g.S.Store.files c.args.store.now) (g.S.Store.files c.write-in-Some.new.store) (g.S.Store.files c.write-in-Some-2.new.store) c.in_ok-write-in-Some.ensures.written written m told
    ∙ ap (λ cs. Some (all_changed cs m))
    (two_files c.args.path.now c.in_ok-own.own c.args.text.now c.as_bytes-bytes.result.now c.in_ok-beside-in-Some.beside c.in-Some.payload.extension.now c.in-Some.payload.bytes.now c.as_slice.result.now
    meta (contents_in c.args.snapshot.now) _ c.in_ok-own.ensures sent c.in_ok-beside-in-Some.ensures c.as_slice.ensures c.in-Some.ensures kinds made)) c.write-in-Some-2.ensures.written

pub returns-in_ok-write-in-Some-clause-stopped : goal.returns-in_ok-write-in-Some-clause-stopped
returns-in_ok-write-in-Some-clause-stopped g c = λ meta kinds made.
    let sent = text_sent _ _ _ _ c.as_str.utf8 c.as_str.ensures refl c.as_bytes-bytes.ensures.value in
    let before = g.S.Store.files c.args.store.now in
    let after = g.S.Store.files c.write-in-Some-2.new.store in
    let first = writes c.in_ok-own.own c.as_bytes-bytes.result.now ∷ [] in
    let second = writes c.in_ok-beside-in-Some.beside c.as_slice.result.now ∷ [] in
    let both = two_files c.args.path.now c.in_ok-own.own c.args.text.now c.as_bytes-bytes.result.now c.in_ok-beside-in-Some.beside c.in-Some.payload.extension.now c.in-Some.payload.bytes.now c.as_slice.result.now
    meta (contents_in c.args.snapshot.now) _ c.in_ok-own.ensures sent c.in_ok-beside-in-Some.ensures c.as_slice.ensures c.in-Some.ensures kinds made in
    IfErr-weaker c.write-in-Some-2.result _ (λ e. StandsAfter (saving c.args.path.now meta (contents_in c.args.snapshot.now)) (named_by e) before after)
    (λ e h.
    let P : List Change → Type 0 = λ cs. StandsAfter cs (named_by e) before after in
    subst P both (stands_later first second (named_by e) before (g.S.Store.files c.write-in-Some.new.store) after c.in_ok-write-in-Some.ensures.written h)) c.write-in-Some-2.ensures.stopped
