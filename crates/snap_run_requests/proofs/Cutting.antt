-- How the scan for the first document goes on.
use Rattle.snap_run_requests.proofs.Prelude.{◌≡◌, ℕ, ◌+◌, ◌<◌, Bool, true, false, cond, nat_eq, zero, suc, ◌≤◌, subst, ◌&&◌, ◌==◌, List, [], ◌∷◌, ◌++◌, length, take, drop, get_or, refl, sym, ◌∙◌, ap, arith, drop-cons, add-one, ◌-◌, length-drop, get_or-drop, drop-drop, drop_all, take_all, take_more}
use Rattle.memchr.specs.Find.{Nowhere, Passes, is_byte}
use Rattle.std.specs.List.{concat}
use Rattle.snap_str.specs.Lines.{onto}
use Rattle.snap_run_requests.specs.Cut.{begins_document, documents}

-- these bytes in front of the first document
abbrev pub prepended : List ℕ → List (List ℕ) → List (List ℕ)
prepended [] ds = ds
prepended (b ∷ bs) ds = onto b (prepended bs ds)

prepended-push : (xs : List ℕ) (b : ℕ) (ds : List (List ℕ)) → prepended (xs ++ b ∷ []) ds ≡ prepended xs (onto b ds)
prepended-push [] b ds = refl
prepended-push (x ∷ xs) b ds = ap (onto x) (prepended-push xs b ds)

prepended-first : (xs d : List ℕ) (ds : List (List ℕ)) → prepended xs (d ∷ ds) ≡ (xs ++ d) ∷ ds
prepended-first [] d ds = refl
prepended-first (x ∷ xs) d ds = ap (onto x) (prepended-first xs d ds)

prepended-alone : (x : ℕ) (xs : List ℕ) → prepended (x ∷ xs) [] ≡ (x ∷ xs) ∷ []
prepended-alone x [] = refl
prepended-alone x (y ∷ ys) = ap (onto x) (prepended-alone y ys)

abbrev pub ends_here : List ℕ → ℕ → Bool
ends_here bs i = nat_eq (get_or bs i 0) 10 && begins_document (drop (i + 1) bs)

-- no document ends before i
pub record IsWithin (bs : List ℕ) (i : ℕ) : Type 0 where
  pub so_far : documents bs ≡ prepended (take i bs) (documents (drop i bs))

at_byte : (bs : List ℕ) (i : ℕ) → i < length bs → documents (drop i bs) ≡ cond (ends_here bs i) ((get_or bs i 0 ∷ []) ∷ documents (drop (i + 1) bs)) (onto (get_or bs i 0) (documents (drop (i + 1) bs)))
at_byte bs i h =
    let front : drop i bs ≡ get_or bs i 0 ∷ drop (i + 1) bs = rw (add-one, drop-cons bs i 0 h) refl in
    ap documents front

pub starts : (bs : List ℕ) → IsWithin bs 0
starts bs = record { so_far = refl }

pub goes_on : (bs : List ℕ) (i : ℕ) → i < length bs → ends_here bs i ≡ false → IsWithin bs i → IsWithin bs (i + 1)
goes_on bs i h other w = record {
  so_far =
      w.so_far ∙ ap (prepended (take i bs)) (at_byte bs i h ∙ ap (λ b. cond b ((get_or bs i 0 ∷ []) ∷ documents (drop (i + 1) bs)) (onto (get_or bs i 0) (documents (drop (i + 1) bs)))) other)
      ∙ sym (prepended-push (take i bs) (get_or bs i 0) _) ∙ ap (λ t. prepended t (documents (drop (i + 1) bs))) (sym (take_more bs i 0 h));
}

pub ends : (bs : List ℕ) (i : ℕ) → i < length bs → ends_here bs i ≡ true → IsWithin bs i → documents bs ≡ take (i + 1) bs ∷ documents (drop (i + 1) bs)
ends bs i h here w =
    w.so_far ∙ ap (prepended (take i bs)) (at_byte bs i h ∙ ap (λ b. cond b ((get_or bs i 0 ∷ []) ∷ documents (drop (i + 1) bs)) (onto (get_or bs i 0) (documents (drop (i + 1) bs)))) here)
    ∙ prepended-first (take i bs) (get_or bs i 0 ∷ []) _ ∙ ap (λ t. t ∷ documents (drop (i + 1) bs)) (sym (take_more bs i 0 h))

other_byte : (bs : List ℕ) (e k : ℕ) → ¬ Passes (is_byte 10) (drop e bs) k → ends_here bs (e + k) ≡ false
other_byte bs e k none = by (nat_eq (get_or bs (e + k) 0) 10) refl
  where
    by : (b : Bool) → nat_eq (get_or bs (e + k) 0) 10 ≡ b → (b && begins_document (drop ((e + k) + 1) bs)) ≡ false
    by true is = absurd (none (ap (λ x. nat_eq x 10) (get_or-drop e bs k 0) ∙ is))
    by false is = refl

-- no document ends in a line before its end
pub along_line : (bs : List ℕ) (e k : ℕ) → e + k ≤ length bs → Nowhere (Passes (is_byte 10) (drop e bs)) 0 k → IsWithin bs e → IsWithin bs (e + k)
along_line bs e zero le none w = let same : e ≡ e + 0 = omega arith in subst (IsWithin bs) same w
along_line bs e (suc k) le none w =
    let before = along_line bs e k (omega (arith, le)) (λ j low high. none j low (omega (arith, high))) w in
    let at : e + k < length bs = omega (arith, le) in
    let next : (e + k) + 1 ≡ e + suc k = omega arith in
    subst (IsWithin bs) next (goes_on bs (e + k) at (other_byte bs e k (none k (omega arith) (omega arith))) before)

-- the line ends at place k of what is left
pub line_place : (bs rest : List ℕ) (e k : ℕ) → rest ≡ drop e bs → e ≤ length bs → k < length rest → e + k < length bs
line_place bs rest e k is le lt = let n : length rest ≡ length bs - e = ap length is ∙ length-drop e bs in omega (arith, n)

pub line_behind : (bs rest behind : List ℕ) (e k : ℕ) → rest ≡ drop e bs → behind ≡ drop (k + 1) rest → behind ≡ drop (e + (k + 1)) bs
line_behind bs rest behind e k is at = at ∙ ap (drop (k + 1)) is ∙ drop-drop (k + 1) e bs

further : (e k : ℕ) → (e + k) + 1 ≡ e + (k + 1)
further e k = omega arith

line_end : (bs rest behind : List ℕ) (e k : ℕ) (ahead : Bool) → rest ≡ drop e bs → behind ≡ drop (k + 1) rest → Passes (is_byte 10) rest k → begins_document behind ≡ ahead → ends_here bs (e + k) ≡ ahead
line_end bs rest behind e k ahead is at byte begins =
    ap (λ b. b && begins_document (drop ((e + k) + 1) bs)) (ap (λ x. nat_eq x 10) (sym (get_or-drop e bs k 0) ∙ ap (λ r. get_or r k 0) (sym is)) ∙ byte)
    ∙ ap begins_document (ap (λ n. drop n bs) (further e k) ∙ sym (line_behind bs rest behind e k is at)) ∙ begins

along : (bs rest : List ℕ) (e k : ℕ) → rest ≡ drop e bs → e + k ≤ length bs → Nowhere (Passes (is_byte 10) rest) 0 k → IsWithin bs e → IsWithin bs (e + k)
along bs rest e k is le none w =
    let P : List ℕ → Type 0 = λ r. Nowhere (Passes (is_byte 10) r) 0 k in
    along_line bs e k le (subst P is none) w

pub line_ends : (bs rest behind : List ℕ) (e k : ℕ) → rest ≡ drop e bs → e + k < length bs → Nowhere (Passes (is_byte 10) rest) 0 k → Passes (is_byte 10) rest k → behind ≡ drop (k + 1) rest → begins_document behind ≡ true → IsWithin bs e
    → documents bs ≡ take (e + (k + 1)) bs ∷ documents (drop (e + (k + 1)) bs)
line_ends bs rest behind e k is lt none byte at begins w =
    let P : ℕ → Type 0 = λ n. documents bs ≡ take n bs ∷ documents (drop n bs) in
    subst P (further e k) (ends bs (e + k) lt (line_end bs rest behind e k true is at byte begins) (along bs rest e k is (omega (arith, lt)) none w))

pub line_goes_on : (bs rest behind : List ℕ) (e k : ℕ) → rest ≡ drop e bs → e + k < length bs → Nowhere (Passes (is_byte 10) rest) 0 k → Passes (is_byte 10) rest k → behind ≡ drop (k + 1) rest → begins_document behind ≡ false → IsWithin bs e
    → IsWithin bs (e + (k + 1))
line_goes_on bs rest behind e k is lt none byte at begins w =
    subst (IsWithin bs) (further e k) (goes_on bs (e + k) lt (line_end bs rest behind e k false is at byte begins) (along bs rest e k is (omega (arith, lt)) none w))

-- no line ends in what is left
pub last_line : (bs rest : List ℕ) (e : ℕ) → rest ≡ drop e bs → e ≤ length bs → Nowhere (Passes (is_byte 10) rest) 0 (length rest) → IsWithin bs e → IsWithin bs (length bs)
last_line bs rest e is le none w =
    let n : length rest ≡ length bs - e = ap length is ∙ length-drop e bs in
    let whole : e + length rest ≡ length bs = omega (arith, n) in
    subst (IsWithin bs) whole (along bs rest e (length rest) is (omega (arith, n)) none w)

pub one_document : (bs : List ℕ) → 0 < length bs → IsWithin bs (length bs) → documents bs ≡ take (length bs) bs ∷ documents (drop (length bs) bs)
one_document [] h w = absurd (omega arith)
one_document (x ∷ xs) h w =
    let n = length (x ∷ xs) in
    let all : take n (x ∷ xs) ≡ x ∷ xs = take_all n (x ∷ xs) (omega arith) in
    let none : drop n (x ∷ xs) ≡ [] = drop_all n (x ∷ xs) (omega arith) in
    w.so_far ∙ ap (λ t. prepended t (documents (drop n (x ∷ xs)))) all ∙ ap (λ d. prepended (x ∷ xs) (documents d)) none ∙ prepended-alone x xs
    ∙ ap (λ t. t ∷ []) (sym all) ∙ ap (λ d. take n (x ∷ xs) ∷ documents d) (sym none)

onto_whole : (b : ℕ) (ds : List (List ℕ)) → concat (onto b ds) ≡ b ∷ concat ds
onto_whole b [] = refl
onto_whole b (d ∷ ds) = refl

either_whole : (here : Bool) (b : ℕ) (ds : List (List ℕ)) (bs : List ℕ) → concat ds ≡ bs → concat (cond here ((b ∷ []) ∷ ds) (onto b ds)) ≡ b ∷ bs
either_whole true b ds bs h = ap (λ t. b ∷ t) h
either_whole false b ds bs h = onto_whole b ds ∙ ap (λ t. b ∷ t) h

pub all_documents : (input : List ℕ) → concat (documents input) ≡ input
all_documents [] = refl
all_documents (b ∷ bs) = either_whole (b == 10 && begins_document bs) b (documents bs) bs (all_documents bs)
