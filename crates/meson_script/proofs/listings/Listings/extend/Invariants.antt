use Rattle.std.proofs.Common.{map, take}
use Rattle.serde_json.specs.View.{view}
use Rattle.meson_script.proofs.ListingTexts.{Extends}
use Rattle.meson_script.proofs.listings.Listings.extend.Given as goal

abbrev pub invariant-loop-listing : goal.invariant-loop-listing
invariant-loop-listing l = Extends l.initial.self.text.items l.self.text.items (map view (take l.listing-index l.listings))
