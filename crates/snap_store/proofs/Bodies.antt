-- The body of a text with a header and of one without.
use Rattle.snap_store.proofs.Prelude.{◌≡◌, ℕ, List, true, cond, ap, is_headed, headed_body, legacy_body, body_of}

pub body-headed : (text : List ℕ) → is_headed text ≡ true → body_of text ≡ headed_body text
body-headed text h = ap (λ b. cond b (headed_body text) (legacy_body text)) h
