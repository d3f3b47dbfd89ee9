use Rattle.std.proofs.Common.{◌≡◌, ◌∙◌, ◌++◌, Ok, ap, map, subst, sym}
use Rattle.serde_json.specs.View.{items_of, view}
use Rattle.serde_json.specs.Written.{items_have_float}
use Rattle.meson_plan.specs.Listing.{told}
use Rattle.meson_script.specs.Listings.{Lists, listings_text}
use Rattle.meson_script.proofs.PlacedListings.{lists-none, lists-plain}
use Rattle.meson_script.proofs.performing.performed.Goals as goal

pub returns-then-not-asks-clause-listed : goal.returns-then-not-asks-clause-listed
returns-then-not-asks-clause-listed c = λ shown is. lists-none c.args.form c.args.project.now c.args.command.now shown c.args.info.now.text.items (sym c.asks.ensures ∙ c.if-not-asks.true) is

pub listed-requires : goal.listed-requires
listed-requires c =
    let same = c.answer.ensures.asking (sym c.asks.ensures ∙ c.if-not-asks.false) in
    subst (λ l. told l c.args.command.now ≡ Ok (map view c.in_ok-answer.answer.listings.items)) (sym same) c.in_ok-answer.ensures.told

pub extend-requires : goal.extend-requires
extend-requires c = ap (λ vs. items_have_float (items_of (map view vs))) c.deref.ensures.value ∙ lists-plain c.args.form c.answer.new.self c.args.command.now (map view c.in_ok-listings.listings.items) c.in_ok-listings.ensures.listed

pub returns-clause-listed : goal.returns-clause-listed
returns-clause-listed c = λ shown is.
    let same = c.answer.ensures.asking (sym c.asks.ensures ∙ c.if-not-asks.false) in
    let more = map view c.in_ok-listings.listings.items in
    record {
      plain = map view c.in_ok-answer.answer.listings.items;
      is_plain = c.in_ok-answer.ensures.told;
      more = more;
      lists = subst (λ l. Lists c.args.form l c.args.command.now more) same c.in_ok-listings.ensures.listed;
      is_text = c.in_ok-extend.ensures shown is ∙ ap (λ vs. listings_text (shown ++ map view vs)) c.deref.ensures.value;
    }
