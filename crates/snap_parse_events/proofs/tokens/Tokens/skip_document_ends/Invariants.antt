use Rattle.snap_parse_events.proofs.Prelude.{◌≡◌, ◌≤◌, ℕ, List, ◌∷◌, false, Some, Token, TokenType, is_document_end, tokens_left, Feeds, WillTake}
use Rattle.snap_parse_events.proofs.tokens.Tokens.skip_document_ends.Given as goal

abbrev pub invariant-ends : goal.invariant-ends
invariant-ends l = record {
  left : tokens_left l.self ≤ tokens_left l.fn.self;
  feeds : (source : List ℕ) → Feeds source l.fn.self → Feeds source l.self;
  takes : (t : TokenType) (ts : List TokenType) → is_document_end t ≡ false → WillTake l.fn.self (t ∷ ts) → WillTake l.self (t ∷ ts);
  held : (token : Token) → l.fn.self.held ≡ Some token → is_document_end token.1 ≡ false → l.self.held ≡ Some token;
}

abbrev pub decreases-ends : goal.decreases-ends
decreases-ends l = tokens_left l.self
