-- When two texts agree by the older rule.
pub use Rattle.snap_text_literals.specs.Legacy.{without_breaks, without_fence, legacy}
