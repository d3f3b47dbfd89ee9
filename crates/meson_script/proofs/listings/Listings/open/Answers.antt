use Rattle.meson_script.proofs.ListingTexts.{opened-some}
use Rattle.meson_script.proofs.listings.Listings.open.Goals as goal

pub returns-in_ok-push-in-Some : goal.returns-in_ok-push-in-Some
returns-in_ok-push-in-Some c = opened-some c.args.self.now.text.items c.pop.new.self.items c.push.new.self.items c.in-Some.field-0 c.in-Some.ensures.items c.in_ok-push-in-Some.ensures.items
