-- What a rectangle makes of a picture, passed on.
unfoldable pub use Rattle.boxlaw.specs.Steps.Box.{boxed}
