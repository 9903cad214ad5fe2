-- Texts cut at their line ends, and framed again.
use Rattle.snap_text_literals.proofs.Prelude.{◌≡◌, ◌==◌, ℕ, List, [], ◌∷◌, ◌++◌, true, false, Result, Ok, Err, refl, append-nil, append_assoc, list_any, flat_map, OnOk, or_left, or_right, IsUnbroken, IsLineThen, is_line_end, line_parts, framed_line, shown}

pub pieces-line : (line more : List ℕ) → list_any is_line_end line ≡ false → line_parts (line ++ 10 ∷ more) ≡ line ∷ line_parts more
pieces-line [] more h = refl
pieces-line (c ∷ line) more h =
    rw (or_left (c == 10) (list_any is_line_end line) h, pieces-line line more (or_right (c == 10) (list_any is_line_end line) h))

pub pieces-unbroken : (line : List ℕ) → list_any is_line_end line ≡ false → line_parts line ≡ line ∷ []
pieces-unbroken [] h = refl
pieces-unbroken (c ∷ line) h = rw (or_left (c == 10) (list_any is_line_end line) h, pieces-unbroken line (or_right (c == 10) (list_any is_line_end line) h))

pub framed_past : (indentation next made rest line more whole : List ℕ) → IsLineThen rest line more → next ≡ made ++ framed_line indentation line
    → made ++ flat_map (framed_line indentation) (line_parts rest) ≡ whole → next ++ flat_map (framed_line indentation) (line_parts more) ≡ whole
framed_past indentation next made rest line more whole h is so_far =
    rw (is, append_assoc made (framed_line indentation line) (flat_map (framed_line indentation) (line_parts more))) (rw (h.is, pieces-line line more h.unbroken) at so_far)

pub framed_end : (indentation text old made rest one two three : List ℕ) → IsUnbroken rest → list_any is_line_end text ≡ true
    → made ++ flat_map (framed_line indentation) (line_parts rest) ≡ old ++ flat_map (framed_line indentation) (line_parts text)
    → one ≡ made ++ framed_line indentation rest → two ≡ one ++ 10 ∷ [] → three ≡ two ++ indentation → three ≡ old ++ shown indentation text
framed_end indentation text old made rest one two three unbroken broken so_far a b z =
    let last = rw (pieces-unbroken rest unbroken, append-nil) at so_far in
    rw (z, b, a, last, broken, append_assoc, append_assoc)

pub on_ok : {T E : Type 0} (r : Result T E) (P Q : Type 0) → (P → Q) → OnOk r P → OnOk r Q
on_ok (Ok x) P Q f h = f h
on_ok (Err e) P Q f h = tt
