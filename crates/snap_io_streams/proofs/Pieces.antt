-- What single reads add up to.
use Rattle.std.proofs.Common.{◌≡◌, ℕ, ◌+◌, ◌<◌, ◌≤◌, List, [], ◌∷◌, ◌++◌, length, take, drop, Option, Some, refl, sym, ◌∙◌, ap, arith, append_assoc, length-append}
use Rattle.std.proofs.lemmas.List.{length-take-le, length-drop}
use Rattle.snap_io.specs.Streams.{GivesFront}
use Rattle.snap_io_streams.specs.Streams.{TakesPiece, TakesAtMost, TakesExactly}

-- these bytes were read of what was left first
pub record IsRead (bytes : List ℕ) (first now : Option (List ℕ)) : Type 0 where
  pub each : (xs : List ℕ) → first ≡ Some xs → GivesFront xs bytes now

pub more_read : (count : ℕ) (bytes next : List ℕ) (first now later : Option (List ℕ)) → TakesPiece count bytes next now later → IsRead bytes first now → IsRead next first later
more_read count bytes next first now later t r = record {
  each = λ xs e.
      let before = r.each xs e in
      let after = t.given before.rest before.told in
      record {
        rest = after.rest;
        told = after.told;
        whole = before.whole ∙ ap (λ x. bytes ++ x) after.whole ∙ sym (append_assoc bytes t.piece after.rest) ∙ ap (λ b. b ++ after.rest) (sym t.added);
      };
}

no_bytes : (xs : List ℕ) → length xs ≡ 0 → xs ≡ []
no_bytes [] h = refl
no_bytes (x ∷ xs) h = absurd (omega arith)

-- where nothing more came all was read
pub record IsAll (xs bytes : List ℕ) (now : Option (List ℕ)) : Type 0 where
  pub same : bytes ≡ xs
  pub nothing_left : now ≡ Some []

pub all_read : (count : ℕ) (bytes next : List ℕ) (first now later : Option (List ℕ)) (xs : List ℕ) → count ≡ 0 → TakesPiece count bytes next now later
    → ((ys : List ℕ) → now ≡ Some ys → ys ≡ []) → IsRead bytes first now → first ≡ Some xs → IsAll xs next later
all_read count bytes next first now later xs none t ended r e =
    let before = r.each xs e in
    let after = t.given before.rest before.told in
    let nothing : before.rest ≡ [] = ended before.rest before.told in
    let piece : t.piece ≡ [] = no_bytes t.piece (t.size ∙ none) in
    let rest : after.rest ≡ [] = ap (λ p. p ++ after.rest) (sym piece) ∙ sym after.whole ∙ nothing in
    record {
      same = t.added ∙ ap (λ p. bytes ++ p) piece ∙ sym (before.whole ∙ ap (λ x. bytes ++ x) nothing);
      nothing_left = after.told ∙ ap Some rest;
    }

-- what was taken exactly was there
pub exactly_long : (count : ℕ) (left left' : Option (List ℕ)) (xs : List ℕ) → TakesExactly count left left' → left ≡ Some xs → count ≤ length xs
exactly_long count left left' xs t e = let gone = t xs e in omega (arith, ap length gone.given.whole, length-append gone.front gone.given.rest, gone.size)

-- what one read gave
pub taken : (count : ℕ) (buffer piece bytes next : List ℕ) (left left' : Option (List ℕ)) → count ≤ length buffer → piece ≡ take count buffer → next ≡ bytes ++ piece
    → ((xs : List ℕ) → left ≡ Some xs → GivesFront xs (take count buffer) left') → TakesPiece count bytes next left left'
taken count buffer piece bytes next left left' fits is added given = record {
  piece = take count buffer;
  size = length-take-le count buffer fits;
  added = added ∙ ap (λ p. bytes ++ p) is;
  given = given;
}

-- the part of a buffer that is read into, and the buffer after it
pub part_room : (room size : ℕ) (buffer : List ℕ) → length buffer ≡ size → 0 < room → room ≤ size → 0 < length (take room buffer)
part_room room size buffer whole some fits = omega (arith, some, length-take-le room buffer (omega (arith, fits, whole)))

pub whole_room : (room size : ℕ) (buffer front : List ℕ) → length buffer ≡ size → room ≤ size → length front ≡ length (take room buffer) → length (front ++ drop room buffer) ≡ size
whole_room room size buffer front whole fits same =
    omega (arith, whole, fits, same, length-append front (drop room buffer), length-drop room buffer, length-take-le room buffer (omega (arith, fits, whole)))

-- after a fault there is left what was left before
pub fault_taken : (most : ℕ) (bytes : List ℕ) (first now later : Option (List ℕ)) → IsRead bytes first now → later ≡ now → length bytes ≤ most → TakesAtMost most first later
fault_taken most bytes first now later r kept within = λ xs e.
    let before = r.each xs e in
    record { front = bytes; given = record { rest = before.rest; told = kept ∙ before.told; whole = before.whole }; within = within }

-- all that was read was taken
pub taken_exactly : (count : ℕ) (bytes : List ℕ) (first now : Option (List ℕ)) → IsRead bytes first now → length bytes ≡ count → TakesExactly count first now
taken_exactly count bytes first now r size = λ xs e. record { front = bytes; given = r.each xs e; size = size }

pub taken_then : (most room : ℕ) (bytes : List ℕ) (first now later : Option (List ℕ)) → IsRead bytes first now → TakesAtMost room now later → length bytes + room ≤ most → TakesAtMost most first later
taken_then most room bytes first now later r t within = λ xs e.
    let before = r.each xs e in
    let after = t before.rest before.told in
    record {
      front = bytes ++ after.front;
      given = record {
        rest = after.given.rest;
        told = after.given.told;
        whole = before.whole ∙ ap (λ x. bytes ++ x) after.given.whole ∙ sym (append_assoc bytes after.front after.given.rest);
      };
      within = omega (arith, within, after.within, length-append bytes after.front);
    }

-- what is read into the part of a buffer keeps the bound
pub room_left : (room size most : ℕ) (bytes buffer : List ℕ) → length buffer ≡ size → room ≤ size → length bytes + room ≤ most → length bytes + length (take room buffer) ≤ most
room_left room size most bytes buffer whole fits left = omega (arith, left, length-take-le room buffer (omega (arith, fits, whole)))

pub within_then : (most count room : ℕ) (bytes next : List ℕ) (now later : Option (List ℕ)) → TakesPiece count bytes next now later → count ≤ room → length bytes + room ≤ most → length next ≤ most
within_then most count room bytes next now later t fits left = omega (arith, left, fits, ap length t.added, length-append bytes t.piece, t.size)
