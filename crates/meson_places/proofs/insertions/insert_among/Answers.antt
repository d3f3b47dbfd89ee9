use Rattle.std.proofs.Common.{◌≡◌, Some, Err, sym, ◌∙◌, subst}
use Rattle.std.specs.Prelude.{◌≢◌, MatchResult}
use Rattle.meson_calls.specs.declared.refusal.Refusal.TheVariants.{OutOfMemory}
use Rattle.meson_steps.specs.Meanings.{AreMeant}
use Rattle.meson_places.specs.Equality.{lists_say}
use Rattle.meson_places.specs.Insertions.{find_mark, insert_at}
use Rattle.meson_places.specs.Names.{loaded_in}
use Rattle.meson_places.specs.inside.Found.{found_lists}
use Rattle.meson_places.proofs.insertions.insert_among.Goals as goal

pub returns-in-Some : goal.returns-in-Some
returns-in-Some c = record {
  made = λ may.
      let l = loaded_in c.args.sources in
      let k = c.args.keyed in
      let gs = c.args.new.values.now in
      let ls = found_lists k.source.now c.args.lists.now in
      let known = lists_say k.source.now ls in
      let found : find_mark k.source.now c.args.new.after.now ls ≡ Some c.in-Some.mark = sym c.in_ok-mark.ensures.found ∙ c.in-Some.is in
      subst (λ o. MatchResult c.insert_at.result (λ steps. AreMeant (insert_at l k.key.now known gs may o) steps.items) (λ e. e ≢ OutOfMemory → insert_at l k.key.now known gs may o ≡ Err e)) (sym found)
      (c.insert_at.ensures.made may k.key.now);
}
