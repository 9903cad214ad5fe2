-- What holds after a token, by its kind.
use Rattle.snap_parse_events.proofs.Prelude.{◌≡◌, List, ℕ, Bool, false, refl, subst, ap, ◌∙◌, All, Token, TokenType, Holds, shown, is_end, IsFounded, Tokens, State, Took, HasSigns, IsSoundIn}
use Rattle.snap_scan_tokens.specs.declared.token.TokenType.TheVariants as k
use Rattle.snap_scan_tokens.specs.declared.info.ScanError.TheVariants.{Syntax}
use Rattle.snap_scan_tokens.specs.declared.info.ScanInfo.TheVariants.{P3}
use Rattle.snap_parse_events.specs.declared.state.State.TheVariants as s
use Rattle.snap_parse_events.proofs.Signs.{list-sign, dict-sign}

-- after a token that begins this state
begins : (source : List ℕ) (t : Token) (f : Tokens) (ys : List State) (kind : TokenType) (y : State) → t.1 ≡ kind → is_end kind ≡ false
    → (Holds source (shown kind) → HasSigns source y) → Took source t f → All (HasSigns source) ys → IsSoundIn source f y ys
begins source t f ys kind y is open_still signs took all =
    let end : TokenType → Bool = λ v. is_end v in
    let P : TokenType → Type 0 = λ v. Holds source (shown v) in
    record { feeds = took.on (ap end is ∙ open_still); here = signs (subst P is took.taken.shown.signs); outer = all }

pub list-begins : (source : List ℕ) (t : Token) (f : Tokens) (ys : List State) → t.1 ≡ k.FlowSequenceStart → Took source t f → All (HasSigns source) ys → IsSoundIn source f s.FlowSequenceFirstEntry ys
list-begins source t f ys is took all = begins source t f ys k.FlowSequenceStart s.FlowSequenceFirstEntry is refl (λ h. list-sign source h) took all

pub dict-begins : (source : List ℕ) (t : Token) (f : Tokens) (ys : List State) → t.1 ≡ k.FlowMappingStart → Took source t f → All (HasSigns source) ys → IsSoundIn source f s.FlowMappingFirstKey ys
dict-begins source t f ys is took all = begins source t f ys k.FlowMappingStart s.FlowMappingFirstKey is refl (λ h. dict-sign source h) took all

pub sequence-begins : (source : List ℕ) (t : Token) (f : Tokens) (ys : List State) → t.1 ≡ k.BlockSequenceStart → Took source t f → All (HasSigns source) ys → IsSoundIn source f s.BlockSequenceEntry ys
sequence-begins source t f ys is took all = begins source t f ys k.BlockSequenceStart s.BlockSequenceEntry is refl (λ h. h) took all

pub mapping-begins : (source : List ℕ) (t : Token) (f : Tokens) (ys : List State) → t.1 ≡ k.BlockMappingStart → Took source t f → All (HasSigns source) ys → IsSoundIn source f s.BlockMappingKey ys
mapping-begins source t f ys is took all = begins source t f ys k.BlockMappingStart s.BlockMappingKey is refl (λ h. h) took all

-- an alias without its anchor is refused at a `*`
pub alias-founded : (source : List ℕ) (t : Token) (f : Tokens) (name : List ℕ) → t.1 ≡ k.Alias name → Took source t f → IsFounded source (Syntax t.0 P3)
alias-founded source t f name is took =
    let P : TokenType → Type 0 = λ v. Holds source (shown v) in
    (subst P is took.taken.shown.signs, took.taken.shown.mark)

-- after an alias the state holds that held before
pub behind-alias : (source : List ℕ) (t : Token) (f : Tokens) (name : List ℕ) (y : State) (ys : List State) → t.1 ≡ k.Alias name → Took source t f → HasSigns source y → All (HasSigns source) ys
    → IsSoundIn source f y ys
behind-alias source t f name y ys is took here all =
    let end : TokenType → Bool = λ v. is_end v in
    record { feeds = took.on (ap end is); here = here; outer = all }
