use Rattle.std.proofs.Common.{map, subst, arith}
use Rattle.std.proofs.lemmas.List.{take_all}
use Rattle.serde_json.specs.View.{view}
use Rattle.meson_script.proofs.ListingTexts.{Extends, element-plain, extends-more, extends-none}
use Rattle.meson_script.proofs.listings.Listings.extend.Goals as goal

pub push-requires : goal.push-requires
push-requires c = element-plain c.args.listings.now c.loop-listing.listing-index c.listing-item.result c.loop-listing-test.true c.listing-item.is c.requires

pub loop-listing-init : goal.loop-listing-init
loop-listing-init c = extends-none c.args.self.now.text.items

pub loop-listing-preserved : goal.loop-listing-preserved
loop-listing-preserved c =
    extends-more c.args.self.now.text.items c.loop-listing.self.text.items c.push.new.self.text.items c.args.listings.now c.loop-listing.listing-index c.listing-item.result
    c.loop-listing-test.true c.listing-item.is c.loop-listing.invariant c.in_ok-push.ensures

pub returns : goal.returns
returns c =
    let l = c.loop-listing in
    subst (λ vs. Extends c.args.self.now.text.items l.self.text.items (map view vs)) (take_all l.listing-index c.args.listings.now (omega arith)) l.invariant
