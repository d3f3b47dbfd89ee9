use Rattle.std.proofs.Common.{◌≡◌, Err, length, sym, ap, ◌∙◌, subst, arith}
use Rattle.std.specs.Prelude.{◌≢◌, MatchResult}
use Rattle.meson_calls.specs.declared.refusal.Refusal.TheVariants.{OutOfMemory}
use Rattle.meson_steps.specs.Meanings.{AreMeant}
use Rattle.meson_places.specs.Insertions.{insert_by}
use Rattle.meson_places.specs.Names.{loaded_in}
use Rattle.meson_places.specs.ValueLists.{lists_of}
use Rattle.meson_places.specs.inside.Behind.{found_value}
use Rattle.meson_places.specs.inside.Found.{found_lists}
use Rattle.meson_places.proofs.SaidSteps.{insert_some}
use Rattle.meson_places.proofs.insertions.insert_into.Goals as goal

pub returns : goal.returns
returns c = record {
  made = λ may.
      let l = loaded_in c.args.sources in
      let key = c.args.key.now in
      let it = c.args.new.after.now in
      let gs = c.args.new.values.now in
      let source = c.args.found.source.now in
      let e = found_value c.args.found in
      let ls = lists_of c.args.place.now e in
      let fs = c.as_slice.result.now in
      let same = c.as_slice.ensures.value in
      let found = ap (found_lists source) same ∙ c.in_ok-lists.ensures.lists in
      let whole = ap (λ s. insert_by l key s it gs may e ls) (sym c.requires.found.source)
      ∙ insert_some source fs ls found l key it gs may e
      (λ none. let empty = sym (ap length same) ∙ none in let no : ⊥ = grind (arith, c.is_empty.ensures, c.if-is_empty.false, empty) in no) in
      subst (λ m. MatchResult c.insert_among.result (λ steps. AreMeant m steps.items) (λ f. f ≢ OutOfMemory → m ≡ Err f)) (sym whole) (c.insert_among.ensures.made may);
}
