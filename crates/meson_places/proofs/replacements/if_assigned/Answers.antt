use Rattle.std.proofs.Common.{◌≡◌, Err, sym, ap, ◌∙◌, subst}
use Rattle.std.specs.Prelude.{◌≢◌, MatchResult, if◌then◌else◌}
use Rattle.meson_syntax.specs.View.{expr_view}
use Rattle.meson_splice.specs.Files.{bytes_at}
use Rattle.meson_calls.specs.declared.refusal.Refusal.TheVariants.{NotLiteral, OutOfMemory}
use Rattle.meson_steps.specs.Meanings.{AreMeant}
use Rattle.meson_places.specs.Names.{loaded_in}
use Rattle.meson_places.specs.Replacements.{exchange, if_assigned, replace_assigned}
use Rattle.meson_places.proofs.replacements.if_assigned.Goals as goal

pub returns : goal.returns
returns c = record {
  made = λ may.
      let x = exchange c.args.pair.old.now c.args.pair.new.now may in
      let key = c.args.keyed.key.now in
      let source = c.args.keyed.source.now in
      let at_ = c.args.place.now in
      let e = expr_view source c.args.keyed.value.now in
      let whole : if_assigned (loaded_in c.args.sources) key x at_ e ≡ replace_assigned key source x at_ e =
      ap (λ b. if b then replace_assigned key (bytes_at at_.file c.args.sources.files.now) x at_ e else Err (NotLiteral key)) (sym c.in_ok-is_assigned.ensures ∙ c.if-not-branch.false)
      ∙ ap (λ s. replace_assigned key s x at_ e) (sym c.requires.source) in
      subst (λ m. MatchResult c.replace_assigned.result (λ steps. AreMeant m steps.items) (λ f. f ≢ OutOfMemory → m ≡ Err f)) (sym whole) (c.replace_assigned.ensures.made may);
}
