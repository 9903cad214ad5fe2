-- The octets of one character: what they are, and which character they make.
use Rattle.snap_scan_properties.proofs.Prelude.{◌≡◌, ℕ, ◌+◌, ◌-◌, ◌*◌, ◌/◌, ◌%◌, ◌<◌, ◌≤◌, List, [], ◌∷◌, true, false, length, nat_lt, refl, sym, ap, ◌∙◌, arith, subst, All, append-nil, inl, inr, IsScalar, chars, chars_after, continuation_len, lead_bits, cases_lt, and_from, nat_tests, All-nil, All-cons, All-head, All-tail, encode_ascii, chars-encodes, IsFurther, is_first, least_code, encode, encodes, scalar, scalar_cases}

-- the first octet of a character, and the further ones
pub record Parts (c : ℕ) : Type 0 where
  pub first : ℕ
  pub further : List ℕ
  pub is : encode c ≡ first ∷ further
  pub leads : is_first first ≡ true
  pub count : length further ≡ continuation_len first
  pub all : All IsFurther further
  pub least : least_code (length further) ≤ c

further-is : (n : ℕ) → IsFurther (128 + n % 64)
further-is n = (omega arith, omega arith)

one : (n : ℕ) → All IsFurther ((128 + n % 64) ∷ [])
one n = All-cons IsFurther (128 + n % 64) [] (further-is n) (All-nil IsFurther)

parts-1 : (c : ℕ) → c < 128 → Parts c
parts-1 c h = record {
  first = c;
  further = [];
  is = encode_ascii c h;
  leads = grind (arith, nat_tests);
  count = grind (arith, nat_tests);
  all = All-nil IsFurther;
  least = omega arith;
}

encode-2 : (c : ℕ) → 128 ≤ c → c < 2048 → encode c ≡ (192 + c / 64) ∷ (128 + c % 64) ∷ []
unfolding encode
encode-2 c h k =
    let a : nat_lt c 128 ≡ false = grind (arith, nat_tests) in
    let b : nat_lt c 2048 ≡ true = grind (arith, nat_tests) in
    rw (a, b) refl

encode-3 : (c : ℕ) → 2048 ≤ c → c < 65536 → encode c ≡ (224 + c / 4096) ∷ (128 + c / 64 % 64) ∷ (128 + c % 64) ∷ []
unfolding encode
encode-3 c h k =
    let a : nat_lt c 128 ≡ false = grind (arith, nat_tests) in
    let b : nat_lt c 2048 ≡ false = grind (arith, nat_tests) in
    let d : nat_lt c 65536 ≡ true = grind (arith, nat_tests) in
    rw (a, b, d) refl

encode-4 : (c : ℕ) → 65536 ≤ c → encode c ≡ (240 + c / 262144) ∷ (128 + c / 4096 % 64) ∷ (128 + c / 64 % 64) ∷ (128 + c % 64) ∷ []
unfolding encode
encode-4 c h =
    let a : nat_lt c 128 ≡ false = grind (arith, nat_tests) in
    let b : nat_lt c 2048 ≡ false = grind (arith, nat_tests) in
    let d : nat_lt c 65536 ≡ false = grind (arith, nat_tests) in
    rw (a, b, d) refl

-- an octet in the range of those that begin two, three or four
leads-2 : (b : ℕ) → 192 ≤ b → b < 224 → (is_first b ≡ true) × (continuation_len b ≡ 1) × (lead_bits b ≡ b - 192)
leads-2 b h k = (grind (arith, nat_tests), grind (arith, nat_tests), grind (arith, nat_tests))

leads-3 : (b : ℕ) → 224 ≤ b → b < 240 → (is_first b ≡ true) × (continuation_len b ≡ 2) × (lead_bits b ≡ b - 224)
leads-3 b h k = (grind (arith, nat_tests), grind (arith, nat_tests), grind (arith, nat_tests))

leads-4 : (b : ℕ) → 240 ≤ b → b < 248 → (is_first b ≡ true) × (continuation_len b ≡ 3) × (lead_bits b ≡ b - 240)
leads-4 b h k = (grind (arith, nat_tests), grind (arith, nat_tests), grind (arith, nat_tests))

parts-2 : (c : ℕ) → 128 ≤ c → c < 2048 → Parts c
parts-2 c h k =
    let l = leads-2 (192 + c / 64) (omega arith) (omega arith) in
    record { first = 192 + c / 64; further = (128 + c % 64) ∷ []; is = encode-2 c h k; leads = l.0; count = sym l.1; all = one c; least = h }

parts-3 : (c : ℕ) → 2048 ≤ c → c < 65536 → Parts c
parts-3 c h k =
    let l = leads-3 (224 + c / 4096) (omega arith) (omega arith) in
    record {
      first = 224 + c / 4096;
      further = (128 + c / 64 % 64) ∷ (128 + c % 64) ∷ [];
      is = encode-3 c h k;
      leads = l.0;
      count = sym l.1;
      all = All-cons IsFurther (128 + c / 64 % 64) ((128 + c % 64) ∷ []) (further-is (c / 64)) (one c);
      least = h;
    }

parts-4 : (c : ℕ) → 65536 ≤ c → c < 1114112 → Parts c
parts-4 c h k =
    let l = leads-4 (240 + c / 262144) (omega arith) (omega arith) in
    record {
      first = 240 + c / 262144;
      further = (128 + c / 4096 % 64) ∷ (128 + c / 64 % 64) ∷ (128 + c % 64) ∷ [];
      is = encode-4 c h;
      leads = l.0;
      count = sym l.1;
      all = All-cons IsFurther (128 + c / 4096 % 64) ((128 + c / 64 % 64) ∷ (128 + c % 64) ∷ []) (further-is (c / 4096)) (All-cons IsFurther (128 + c / 64 % 64) ((128 + c % 64) ∷ []) (further-is (c / 64)) (one c));
      least = h;
    }

below : (c : ℕ) → IsScalar c → c < 1114112
below c s = elim (scalar_cases c s) [ inl h ↦ omega arith | inr h ↦ h.1 ]

pub parts : (c : ℕ) → IsScalar c → Parts c
parts c s =
    elim (cases_lt c 128) [
      | inl h ↦ parts-1 c h
      | inr h ↦ elim (cases_lt c 2048) [
        | inl k ↦ parts-2 c h k
        | inr k ↦ elim (cases_lt c 65536) [ inl l ↦ parts-3 c k l | inr l ↦ parts-4 c l (below c s) ]
      ]
    ]

-- the further octets of a character make its code
pub parts-code : (c first : ℕ) (further : List ℕ) → IsScalar c → encode c ≡ first ∷ further
    → chars_after (continuation_len first) (lead_bits first) further ≡ c ∷ []
unfolding chars
parts-code c first further s is =
    let one-of : encodes (c ∷ []) ≡ first ∷ further = append-nil (encode c) ∙ is in
    sym (ap chars one-of) ∙ chars-encodes (c ∷ []) (and_from (scalar c) true s refl)

-- the parts of a code by its bits
split-2 : (a b c : ℕ) → b < 64 → c ≡ a * 64 + b → (c / 64 ≡ a) × (c % 64 ≡ b)
split-2 a b c h e = (omega arith, omega arith)

split-3 : (a b d c : ℕ) → b < 64 → d < 64 → c ≡ (a * 64 + b) * 64 + d → (c / 4096 ≡ a) × (c / 64 % 64 ≡ b) × (c % 64 ≡ d)
split-3 a b d c h k e = (omega arith, omega arith, omega arith)

split-4 : (a b d f c : ℕ) → b < 64 → d < 64 → f < 64 → c ≡ ((a * 64 + b) * 64 + d) * 64 + f
    → (c / 262144 ≡ a) × (c / 4096 % 64 ≡ b) × (c / 64 % 64 ≡ d) × (c % 64 ≡ f)
split-4 a b d f c h k l e = (omega arith, omega arith, omega arith, omega arith)

code-2 : (b x c : ℕ) → 192 ≤ b → b < 224 → IsFurther x → c ≡ (b - 192) * 64 + (x - 128) → 128 ≤ c → encode c ≡ b ∷ x ∷ []
code-2 b x c h k f e l =
    let s = split-2 (b - 192) (x - 128) c (omega arith) e in
    let e1 : 192 + c / 64 ≡ b = omega (arith, s.0) in
    let e2 : 128 + c % 64 ≡ x = omega (arith, s.1) in
    let high : c < 2048 = omega arith in
    encode-2 c l high ∙ cc

code-3 : (b x y c : ℕ) → 224 ≤ b → b < 240 → IsFurther x → IsFurther y → c ≡ ((b - 224) * 64 + (x - 128)) * 64 + (y - 128) → 2048 ≤ c
    → encode c ≡ b ∷ x ∷ y ∷ []
code-3 b x y c h k f g e l =
    let s = split-3 (b - 224) (x - 128) (y - 128) c (omega arith) (omega arith) e in
    let e1 : 224 + c / 4096 ≡ b = omega (arith, s.0) in
    let e2 : 128 + c / 64 % 64 ≡ x = omega (arith, s.1) in
    let e3 : 128 + c % 64 ≡ y = omega (arith, s.2) in
    let high : c < 65536 = omega arith in
    encode-3 c l high ∙ cc

code-4 : (b x y z c : ℕ) → 240 ≤ b → b < 248 → IsFurther x → IsFurther y → IsFurther z
    → c ≡ (((b - 240) * 64 + (x - 128)) * 64 + (y - 128)) * 64 + (z - 128) → 65536 ≤ c → encode c ≡ b ∷ x ∷ y ∷ z ∷ []
code-4 b x y z c h k f g i e l =
    let s = split-4 (b - 240) (x - 128) (y - 128) (z - 128) c (omega arith) (omega arith) (omega arith) e in
    let e1 : 240 + c / 262144 ≡ b = omega (arith, s.0) in
    let e2 : 128 + c / 4096 % 64 ≡ x = omega (arith, s.1) in
    let e3 : 128 + c / 64 % 64 ≡ y = omega (arith, s.2) in
    let e4 : 128 + c % 64 ≡ z = omega (arith, s.3) in
    encode-4 c l ∙ cc

first-same : (a b : ℕ) → a ∷ [] ≡ b ∷ [] → b ≡ a
first-same a b e = cc

at-1 : (b c : ℕ) (bs : List ℕ) → b < 128 → length bs ≡ 0 → chars_after 0 b bs ≡ c ∷ [] → encode c ≡ b ∷ bs
at-1 b c [] h n e = let P : ℕ → Type 0 = λ x. encode x ≡ b ∷ [] in subst P (sym (first-same b c e)) (encode_ascii b h)
at-1 b c (x ∷ bs) h n e = absurd (omega arith)

at-2 : (b c : ℕ) (bs : List ℕ) → 192 ≤ b → b < 224 → length bs ≡ 1 → All IsFurther bs → chars_after 1 (b - 192) bs ≡ c ∷ [] → 128 ≤ c → encode c ≡ b ∷ bs
at-2 b c [] h k n all e l = absurd (omega arith)
at-2 b c (x ∷ []) h k n all e l = code-2 b x c h k (All-head IsFurther x [] all) (first-same ((b - 192) * 64 + (x - 128)) c e) l
at-2 b c (x ∷ y ∷ bs) h k n all e l = absurd (omega arith)

at-3 : (b c : ℕ) (bs : List ℕ) → 224 ≤ b → b < 240 → length bs ≡ 2 → All IsFurther bs → chars_after 2 (b - 224) bs ≡ c ∷ [] → 2048 ≤ c → encode c ≡ b ∷ bs
at-3 b c [] h k n all e l = absurd (omega arith)
at-3 b c (x ∷ []) h k n all e l = absurd (omega arith)
at-3 b c (x ∷ y ∷ []) h k n all e l =
    let more : All IsFurther (y ∷ []) = All-tail IsFurther x (y ∷ []) all in
    code-3 b x y c h k (All-head IsFurther x (y ∷ []) all) (All-head IsFurther y [] more) (first-same (((b - 224) * 64 + (x - 128)) * 64 + (y - 128)) c e) l
at-3 b c (x ∷ y ∷ z ∷ bs) h k n all e l = absurd (omega arith)

at-4 : (b c : ℕ) (bs : List ℕ) → 240 ≤ b → b < 248 → length bs ≡ 3 → All IsFurther bs → chars_after 3 (b - 240) bs ≡ c ∷ [] → 65536 ≤ c → encode c ≡ b ∷ bs
at-4 b c [] h k n all e l = absurd (omega arith)
at-4 b c (x ∷ []) h k n all e l = absurd (omega arith)
at-4 b c (x ∷ y ∷ []) h k n all e l = absurd (omega arith)
at-4 b c (x ∷ y ∷ z ∷ []) h k n all e l =
    let more : All IsFurther (y ∷ z ∷ []) = All-tail IsFurther x (y ∷ z ∷ []) all in
    let last : All IsFurther (z ∷ []) = All-tail IsFurther y (z ∷ []) more in
    code-4 b x y z c h k (All-head IsFurther x (y ∷ z ∷ []) all) (All-head IsFurther y (z ∷ []) more) (All-head IsFurther z [] last)
    (first-same ((((b - 240) * 64 + (x - 128)) * 64 + (y - 128)) * 64 + (z - 128)) c e) l
at-4 b c (x ∷ y ∷ z ∷ w ∷ bs) h k n all e l = absurd (omega arith)

abbrev pub Made : ℕ → ℕ → List ℕ → ℕ → ℕ → Type 0
Made n bits bs c b = length bs ≡ n → chars_after n bits bs ≡ c ∷ [] → least_code n ≤ c → encode c ≡ b ∷ bs

by-leads : (n bits : ℕ) (b : ℕ) (bs : List ℕ) (c : ℕ) → continuation_len b ≡ n → lead_bits b ≡ bits → Made n bits bs c b
    → Made (continuation_len b) (lead_bits b) bs c b
by-leads n bits b bs c e f made =
    let P : ℕ → Type 0 = λ m. Made m (lead_bits b) bs c b in
    let Q : ℕ → Type 0 = λ m. Made n m bs c b in
    subst P (sym e) (subst Q (sym f) made)

-- octets whose bits make a code that needs as many are those of the code
pub octets-of-code : (b c : ℕ) (bs : List ℕ) → is_first b ≡ true → All IsFurther bs → Made (continuation_len b) (lead_bits b) bs c b
octets-of-code b c bs first all =
    elim (cases_lt b 128) [
      | inl h ↦ by-leads 0 b b bs c (grind (arith, nat_tests)) (grind (arith, nat_tests)) (λ n e l. at-1 b c bs h n e)
      | inr h ↦
          let low : 192 ≤ b = grind (arith, nat_tests) in
          let high : b < 248 = grind (arith, nat_tests) in
          elim (cases_lt b 224) [
            | inl k ↦ by-leads 1 (b - 192) b bs c (leads-2 b low k).1 (leads-2 b low k).2 (λ n e l. at-2 b c bs low k n all e l)
            | inr k ↦ elim (cases_lt b 240) [
              | inl m ↦ by-leads 2 (b - 224) b bs c (leads-3 b k m).1 (leads-3 b k m).2 (λ n e l. at-3 b c bs k m n all e l)
              | inr m ↦ by-leads 3 (b - 240) b bs c (leads-4 b m high).1 (leads-4 b m high).2 (λ n e l. at-4 b c bs m high n all e l)
            ]
          ]
    ]
