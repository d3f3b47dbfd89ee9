use Rattle.meson_sources.proofs.removing.find_spots.Goals as goal
use Rattle.std.proofs.lemmas.Grind.{common_steps}
use Rattle.meson_sources.proofs.Words.{bytes_eq, option_map, ◌||◌, [], ap, arith, drop, get_or, length, map, None, sym, ◌+◌, ◌<◌, ◌∙◌, ◌∷◌, map-append}
use Rattle.meson_sources.proofs.Words.{SourceItem, all_there, before_all, is_some_there, spot_if_there, spot_view, spots_at}
use Rattle.meson_sources.proofs.commands.Removals.{spot_here, no_spot_here, one_before, some_spot}
use Rattle.meson_sources.proofs.removing.find_spots.Goals.{then-eq+in_ok-spot+in-Some+in_ok-push_spot, else-eq}

pub loop-i-preserved : goal.loop-i-preserved
loop-i-preserved c =
    let name = c.args.name.now in
    let items = c.args.marks.now.items.items in
    let numbers = c.args.marks.now.numbers.items in
    let i = c.loop-i.i in
    let d = c.index-item.result.now in
    let within : i < length items = omega arith in
    let also : i < length numbers = omega arith in
    let later = spots_at name (drop (i + 1) items) (drop (i + 1) numbers) in
    let test = ap (λ (x : SourceItem). bytes_eq x.value name) (sym c.index-item.ensures) ∙ sym c.eq.ensures in
    let old = c.loop-i.spots.items in
    elim c.if-eq.branch [
      | then-eq+in_ok-spot+in-Some+in_ok-push_spot w ↦
          (let e = w.index.result.now in
          let s = w.in-Some.spot in
          let spot_is =
          ap (λ (x : SourceItem). spot_if_there x.list (get_or numbers i e)) (sym c.index-item.ensures) ∙ ap (λ n. spot_if_there d.list n) (sym w.index.ensures) ∙ sym w.in_ok-spot.ensures
          ∙ ap (option_map spot_view) w.in-Some.is in
          let is = spot_here name items numbers i d e within also (test ∙ w.if-eq.true) ∙ ap (λ o. o ∷ later) spot_is in (
            ap (λ v. before_all (map spot_view v.items) (all_there later)) w.spots-is ∙ ap (λ xs. before_all (map spot_view xs) (all_there later)) w.in_ok-push_spot.ensures
                ∙ ap (λ xs. before_all xs (all_there later)) (map-append spot_view old (s ∷ []))
                ∙ one_before (map spot_view old) (spot_view s) later
                ∙ ap (λ x. before_all (map spot_view old) (all_there x)) (sym is)
                ∙ c.loop-i.invariant.0,
            ap (λ b. b || is_some_there later) w.found-is ∙ sym (some_spot c.loop-i.found _ _ _ is) ∙ c.loop-i.invariant.1,
          ))
      | else-eq w ↦
          (let e = get_or numbers i None in
          let is = no_spot_here name items numbers i d e within also (test ∙ w.if-eq.false) in (
            ap (λ v. before_all (map spot_view v.items) (all_there later)) w.spots-is ∙ ap (λ x. before_all (map spot_view old) (all_there x)) (sym is) ∙ c.loop-i.invariant.0,
            ap (λ b. b || is_some_there later) w.found-is ∙ ap (λ x. c.loop-i.found || is_some_there x) (sym is) ∙ c.loop-i.invariant.1,
          ))
    ]

pub returns-clause-found : goal.returns-clause-found
returns-clause-found c = grind (arith, common_steps)

pub returns-clause-some : goal.returns-clause-some
returns-clause-some c = grind (arith, common_steps)

pub returns-in_default-clause-refused : goal.returns-in_default-clause-refused
returns-in_default-clause-refused c = grind (arith, common_steps)

pub returns-in_default-clause-there : goal.returns-in_default-clause-there
returns-in_default-clause-there c = grind (arith, common_steps)
