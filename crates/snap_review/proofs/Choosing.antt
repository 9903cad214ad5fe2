-- The last record of each line, over borrowed records.
use Rattle.snap_store.specs.Views.{contents_in}
use Rattle.snap_store.specs.declared.contents.SnapshotContents.TheVariants as t
use Rattle.snap_store.specs.declared.snapshot.Snapshot.{Snapshot}
use Rattle.snap_text.specs.Contents.{raw_of}
use Rattle.snap_text.specs.declared.contents.TextSnapshotContents.{TextSnapshotContents}
use Rattle.snap_review.proofs.Prelude.{◌≡◌, ℕ, Option, Some, option_map, snapshot_of, raw_text, raw_in, List, [], ◌∷◌, ◌++◌, refl, sym, ap, ◌∙◌, map, flat_map, option_to_list, Bor, Ordering, Less, Equal, Greater, match_ordering, nat_cmp, insert_entry, values_of, Pending, pending_of, PendingInlineSnapshot, latest_after, seen, seen_entry, asked_by, wanted, asked}

over : (o : Ordering) (a b c : List (ℕ × Bor PendingInlineSnapshot)) → seen (match_ordering o a b c) ≡ match_ordering o (seen a) (seen b) (seen c)
over Less a b c = refl
over Equal a b c = refl
over Greater a b c = refl

seen-insert : (es : List (ℕ × Bor PendingInlineSnapshot)) (k : ℕ) (r : Bor PendingInlineSnapshot) → seen (insert_entry nat_cmp es k r) ≡ insert_entry nat_cmp (seen es) k (pending_of r.now)
seen-insert [] k r = refl
seen-insert (e ∷ es) k r =
    over (nat_cmp k e.0) ((k, r) ∷ e ∷ es) ((e.0, r) ∷ es) (e ∷ insert_entry nat_cmp es k r)
    ∙ ap (λ x. match_ordering (nat_cmp k e.0) ((k, pending_of r.now) ∷ seen (e ∷ es)) ((e.0, pending_of r.now) ∷ seen es) (seen_entry e ∷ x)) (seen-insert es k r)

pub latest_turn : (es new : List (ℕ × Bor PendingInlineSnapshot)) (left rest : List PendingInlineSnapshot) (line : ℕ) (r : Bor PendingInlineSnapshot) (all : List (ℕ × Pending))
    → left ≡ r.now ∷ rest → line ≡ (pending_of r.now).line → new ≡ insert_entry nat_cmp es line r
    → latest_after (seen es) (map pending_of left) ≡ all → latest_after (seen new) (map pending_of rest) ≡ all
latest_turn es new left rest line r all left_is line_is new_is so_far =
    ap (λ x. latest_after x (map pending_of rest)) (ap seen new_is ∙ seen-insert es line r ∙ ap (λ k. insert_entry nat_cmp (seen es) k (pending_of r.now)) line_is)
    ∙ ap (λ xs. latest_after (seen es) (map pending_of xs)) (sym left_is) ∙ so_far

pub values-asked : (es : List (ℕ × Bor PendingInlineSnapshot)) → flat_map asked (values_of es) ≡ flat_map asked_by (seen es)
values-asked [] = refl
values-asked (e ∷ es) = ap (λ x. option_to_list (wanted (pending_of e.1.now)) ++ x) (values-asked es)

pub text_shown : (held : Bor Snapshot) (snapshot : Option (Bor Snapshot)) (contents : TextSnapshotContents) (shown : List ℕ) → shown ≡ raw_of contents → contents_in held.now ≡ t.Text contents → snapshot ≡ Some held
    → Some shown ≡ raw_in (option_map (λ (s : Bor Snapshot). snapshot_of s.now) snapshot)
text_shown held snapshot contents shown shown_is contents_are held_is =
    let text : raw_text (contents_in held.now) ≡ Some (raw_of contents) = ap raw_text contents_are in
    ap Some shown_is ∙ sym text ∙ ap (λ h. raw_in (option_map (λ (s : Bor Snapshot). snapshot_of s.now) h)) (sym held_is)
