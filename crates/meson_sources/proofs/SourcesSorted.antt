-- After sources are added, each in its place, their list has its old elements in their order, with the new ones among them.
pub use Rattle.meson_sources.proofs.sorted.Homes.{sources-are-sorted}
pub use Rattle.meson_sources.proofs.sorted.StillInOrder.{order-is-kept}
