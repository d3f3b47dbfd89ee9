use Rattle.meson_sources.proofs.removing.spots_of.Goals as goal
use Rattle.std.proofs.lemmas.Grind.{common_steps}
use Rattle.meson_sources.proofs.Words.{add-one, ap, arith, drop, get_or, length, map, rules, sym, true, ◌+◌, ◌∙◌, ◌∷◌, ◌≡◌, drop-cons, joined_spots, spot_view}
use Rattle.meson_sources.proofs.Words.{spots_at, spots_of_names}
use Rattle.meson_sources.proofs.commands.Removals.{next_name}

pub loop-i-preserved : goal.loop-i-preserved
loop-i-preserved c =
    let items = c.args.marks.now.items.items in
    let numbers = c.args.marks.now.numbers.items in
    let unknown = length c.args.marks.now.unknown.items in
    let names = c.args.names.now in
    let i = c.loop-i.i in
    let x = c.index-names-i.result in
    let old = map spot_view c.loop-i.spots.items in
    let spots = spots_at x.now items numbers in
    let rest = spots_of_names items numbers unknown (map (λ x. x.now) (drop (i + 1) names)) in
    let found : c.in_ok-found.found ≡ true = search rules in
    let is = drop-cons names i x c.loop-i-test.true ∙ ap (λ k. get_or names i x ∷ drop k names) (sym (add-one i)) ∙ ap (λ y. y ∷ drop (i + 1) names) (sym c.index-names-i.is) in
    next_name old (map spot_view c.find_spots.new.spots.items) unknown spots rest (sym c.in_ok-found.ensures.some ∙ found) c.in_ok-found.ensures.found
    ∙ ap (λ xs. joined_spots old (spots_of_names items numbers unknown (map (λ x. x.now) xs))) (sym is)
    ∙ c.loop-i.invariant

pub returns-clause-found : goal.returns-clause-found
returns-clause-found c = grind (arith, common_steps)

pub returns-in_err-found-clause-refused : goal.returns-in_err-found-clause-refused
returns-in_err-found-clause-refused c = grind (arith, common_steps)

pub returns-then-len-gt0-clause-refused : goal.returns-then-len-gt0-clause-refused
returns-then-len-gt0-clause-refused c = grind (arith, common_steps)

pub returns-then-not-found-clause-refused : goal.returns-then-not-found-clause-refused
returns-then-not-found-clause-refused c = grind (arith, common_steps)
