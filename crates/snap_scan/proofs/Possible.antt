-- Places in the source, and the possible keys after them.
use Rattle.snap_scan.proofs.Prelude.{◌≡◌, ◌≢◌, ◌≤◌, ◌+◌, ◌++◌, ◌∷◌, [], ℕ, Bool, true, false, List, Option, Some, None, length, slice_index, length-append, append_assoc, subst, sym, ap, arith, refl, ◌∙◌, ◌==◌, if◌then◌else◌, cond, count_by, codes, All-weaker, Place, Later, here, next, skip_from, skipped, forced, behind, is_among, Keys, IsIn, IsKeyBehind, IsKeySound, IsPossible, ArePossible, SimpleKey}
use Rattle.std.proofs.lemmas.List.Sums.{sum_by-append}

pub count-append : (signs xs ys : List ℕ) → count_by (is_among signs) (xs ++ ys) ≡ count_by (is_among signs) xs + count_by (is_among signs) ys
count-append signs xs ys = sum_by-append _ xs ys

pub in-source : (source : List ℕ) (n : ℕ) (p : Place) → IsIn source n p → p.index + length p.left ≡ length source
in-source source n p is = let long = ap length is.text in omega (arith, length-append is.before p.left, is.index)

in-skip : (source : List ℕ) (n : ℕ) (cs : List ℕ) (p : Place) → p.left ≡ cs → IsIn source n p → IsIn source n (skip_from cs p)
in-skip source n [] p left is = is
in-skip source n (c ∷ cs) p left is = record {
  before = is.before ++ c ∷ [];
  text = is.text ∙ ap (λ (v : List ℕ). is.before ++ v) left ∙ sym (append_assoc is.before (c ∷ []) cs);
  index = let i = is.index in omega (arith, length-append is.before (c ∷ []));
  brackets = let b = is.brackets in omega (arith, count-append (codes "[{") is.before (c ∷ []));
}

pub in-skipped : (source : List ℕ) (n : ℕ) (p : Place) → IsIn source n p → IsIn source n (skipped p)
in-skipped source n p is = in-skip source n p.left p refl is

pub in-later : (source : List ℕ) (n : ℕ) (p q : Place) → Later p q → IsIn source n p → IsIn source n q
in-later source n _ _ (here p) is = is
in-later source n _ _ (next p q later) is = in-skipped source n q (in-later source n p q later is)

pub count-one : (signs : List ℕ) (c : ℕ) → is_among signs c ≡ true → count_by (is_among signs) (c ∷ []) ≡ 1
count-one signs c is = rw is

in-bracket-at : (source : List ℕ) (n : ℕ) (cs : List ℕ) (p : Place) → p.left ≡ cs → is_among (codes "[{") (slice_index cs 0) ≡ true → IsIn source n p → IsIn source (n + 1) (skip_from cs p)
in-bracket-at source n [] p left bracket is = absurd (cc)
in-bracket-at source n (c ∷ cs) p left bracket is =
    let one = count-one (codes "[{") c bracket in
    let b = is.brackets in
    let i = is.index in
    record {
      before = is.before ++ c ∷ [];
      text = is.text ∙ ap (λ (v : List ℕ). is.before ++ v) left ∙ sym (append_assoc is.before (c ∷ []) cs);
      index = omega (arith, length-append is.before (c ∷ []));
      brackets = omega (arith, count-append (codes "[{") is.before (c ∷ []), one);
    }

-- after an opening bracket stands one more
pub in-bracket : (source : List ℕ) (n : ℕ) (p : Place) → is_among (codes "[{") (slice_index p.left 0) ≡ true → IsIn source n p → IsIn source (n + 1) (skipped p)
in-bracket source n p bracket is = in-bracket-at source n p.left p refl bracket is

pub in-fewer : (source : List ℕ) (m n : ℕ) (p : Place) → m ≤ n → IsIn source n p → IsIn source m p
in-fewer source m n p fewer is = let b = is.brackets in record { before = is.before; text = is.text; index = is.index; brackets = omega arith }

pub in-forced : (source : List ℕ) (n : ℕ) (p : Place) → IsIn source n p → IsIn source n (forced p)
in-forced source n p is = record { before = is.before; text = is.text; index = is.index; brackets = is.brackets }

-- as many brackets stand in the source
pub in-holds : (source : List ℕ) (n : ℕ) (p : Place) → IsIn source n p → n ≤ count_by (is_among (codes "[{")) source
in-holds source n p is =
    let b = is.brackets in rw is.text (omega (arith, count-append (codes "[{") is.before p.left))

some-stands : (signs before cs : List ℕ) → is_among signs (slice_index cs 0) ≡ true → slice_index cs 0 ≢ 0 → 1 ≤ count_by (is_among signs) (before ++ cs)
some-stands signs before [] first some = absurd (some refl)
some-stands signs before (c ∷ cs) first some =
    let one = count-one signs c first in
    omega (arith, count-append signs before (c ∷ cs), count-append signs (c ∷ []) cs, one)

-- a sign that stands here stands in the source
pub stands : (signs source : List ℕ) (n : ℕ) (p : Place) → IsIn source n p → is_among signs (slice_index p.left 0) ≡ true → slice_index p.left 0 ≢ 0 → 1 ≤ count_by (is_among signs) source
stands signs source n p is first some =
    rw is.text (some-stands signs is.before p.left first some)

-- what stands after a place stands in the source
pub stands-behind : (signs source : List ℕ) (n m : ℕ) (p : Place) → IsIn source n p → m ≤ count_by (is_among signs) p.left → m ≤ count_by (is_among signs) source
stands-behind signs source n m p is enough =
    rw is.text (omega (arith, count-append signs is.before p.left))

line-on : (b : Bool) (n k l : ℕ) → n + k ≤ l → n + (k + (0 + cond b 1 0)) ≤ (if b then l + 1 else l)
line-on true n k l le = omega arith
line-on false n k l le = omega arith

behind-skip : (source : List ℕ) (d : ℕ) (key : SimpleKey) (cs : List ℕ) (p : Place) → p.left ≡ cs → IsKeyBehind source d p key → IsKeyBehind source d (skip_from cs p) key
behind-skip source d key [] p left is = is
behind-skip source d key (c ∷ cs) p left is = record {
  before = is.before;
  between = is.between ++ c ∷ [];
  text = is.text ∙ ap (λ (v : List ℕ). is.before ++ is.between ++ v) left
      ∙ sym (append_assoc (is.before ++ is.between) (c ∷ []) cs) ∙ ap (λ (v : List ℕ). v ++ cs) (append_assoc is.before is.between (c ∷ []));
  index = is.index;
  some = let s = is.some in omega (arith, length-append is.between (c ∷ []));
  lines =
      let P : ℕ → Type 0 = λ n. key.mark.line + n ≤ (behind c cs p).line in
      subst P (sym (sum_by-append _ is.between (c ∷ []))) (line-on (c == 10) key.mark.line _ p.line is.lines);
}

behind-later : (source : List ℕ) (d : ℕ) (key : SimpleKey) (p q : Place) → Later p q → IsKeyBehind source d p key → IsKeyBehind source d q key
behind-later source d key _ _ (here p) is = is
behind-later source d key _ _ (next p q later) is = behind-skip source d key q.left q refl (behind-later source d key p q later is)

behind-length : (source : List ℕ) (d : ℕ) (key : SimpleKey) (p : Place) (is : IsKeyBehind source d p key) → key.mark.index + length is.between + length p.left ≡ length source
behind-length source d key p is =
    let long = ap length is.text in
    omega (arith, length-append (is.before ++ is.between) p.left, length-append is.before is.between, is.index)

-- further on a key lies after
behind-further : (source : List ℕ) (d : ℕ) (key : SimpleKey) (p q : Place) → Later p q → length q.left + 1 ≤ length p.left → IsKeyBehind source d p key → IsKeyBehind source 1 q key
behind-further source d key p q later further is =
    let on = behind-later source d key p q later is in
    record {
      before = on.before;
      between = on.between;
      text = on.text;
      index = on.index;
      some = omega (arith, behind-length source d key p is, behind-length source d key q on);
      lines = on.lines;
    }

possible-as : (source : List ℕ) (d e : ℕ) (p q : Place) (a b : Bool) → ((key : SimpleKey) → IsKeySound source d p a key → IsKeySound source e q b key)
    → (key : Option SimpleKey) → IsPossible source d p a key → IsPossible source e q b key
possible-as source d e p q a b turn None is = tt
possible-as source d e p q a b turn (Some key) is = turn key is

keys-as : (source : List ℕ) (d e : ℕ) (p q : Place) (a b : Bool) (keys : Keys) → ((key : SimpleKey) → IsKeySound source d p a key → IsKeySound source e q b key)
    → ArePossible source d p a keys → ArePossible source e q b keys
keys-as source d e p q a b keys turn are = record {
  key = possible-as source d e p q a b turn keys.key are.key;
  outer = All-weaker (IsPossible source d p a) (IsPossible source e q b) (possible-as source d e p q a b turn) keys.outer are.outer;
}

pub keys-later : (source : List ℕ) (d : ℕ) (p q : Place) (b : Bool) (keys : Keys) → Later p q → ArePossible source d p b keys → ArePossible source d q b keys
keys-later source d p q b keys later are =
    keys-as source d d p q b b keys (λ key is. record { behind = behind-later source d key p q later is.behind; block = is.block; place = is.place }) are

pub keys-further : (source : List ℕ) (d : ℕ) (p q : Place) (b : Bool) (keys : Keys) → Later p q → length q.left + 1 ≤ length p.left
    → ArePossible source d p b keys → ArePossible source 1 q b keys
keys-further source d p q b keys later further are =
    keys-as source d 1 p q b b keys (λ key is. record { behind = behind-further source d key p q later further is.behind; block = is.block; place = is.place }) are

pub keys-nearer : (source : List ℕ) (d : ℕ) (p : Place) (b : Bool) (keys : Keys) → ArePossible source d p b keys → ArePossible source 0 p b keys
keys-nearer source d p b keys are =
    keys-as source d 0 p p b b keys (λ key is. record {
      behind = record { before = is.behind.before; between = is.behind.between; text = is.behind.text; index = is.behind.index; some = omega arith; lines = is.behind.lines };
      block = is.block;
      place = is.place;
    }) are

line-forced : (b : Bool) (n l : ℕ) → n ≤ l → n ≤ (if b then l else l + 1)
line-forced true n l le = le
line-forced false n l le = omega arith

pub keys-forced : (source : List ℕ) (d : ℕ) (p : Place) (b : Bool) (keys : Keys) → ArePossible source d p b keys → ArePossible source d (forced p) b keys
keys-forced source d p b keys are =
    keys-as source d d p (forced p) b b keys (λ key is. record {
      behind = record {
        before = is.behind.before;
        between = is.behind.between;
        text = is.behind.text;
        index = is.behind.index;
        some = is.behind.some;
        lines = line-forced (p.col == 0) _ p.line is.behind.lines;
      };
      block = is.block;
      place = is.place;
    }) are
