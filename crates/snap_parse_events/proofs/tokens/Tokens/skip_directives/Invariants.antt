use Rattle.snap_parse_events.proofs.Prelude.{◌≡◌, ◌≤◌, ℕ, List, ◌∷◌, false, Some, Token, TokenType, is_directive, tokens_left, Feeds, WillTake}
use Rattle.snap_parse_events.proofs.tokens.Tokens.skip_directives.Given as goal

abbrev pub invariant-directives : goal.invariant-directives
invariant-directives l = record {
  left : tokens_left l.self ≤ tokens_left l.fn.self;
  feeds : (source : List ℕ) → Feeds source l.fn.self → Feeds source l.self;
  takes : (t : TokenType) (ts : List TokenType) → is_directive t ≡ false → WillTake l.fn.self (t ∷ ts) → WillTake l.self (t ∷ ts);
  held : (token : Token) → l.fn.self.held ≡ Some token → is_directive token.1 ≡ false → l.self.held ≡ Some token;
}

abbrev pub decreases-directives : goal.decreases-directives
decreases-directives l = tokens_left l.self
