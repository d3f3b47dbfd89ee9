use Rattle.std.proofs.Common.{ℕ, List, ◌++◌, [], encode_utf8, refl, sym, ap, ◌∙◌, append_assoc, append-nil}
use Rattle.std.proofs.Output.{has_written_append, has_written_of_eq}
use Rattle.std.proofs.lemmas.Grind.{flat_map-append}
use Rattle.std.proofs.lemmas.List.{nil_from_length}
use Rattle.json.specs.Print.{escape, escape_byte}
use Rattle.meson_rewrite.proofs.quoted.InsideWrite.write_str.Goals as goal

pub loop-c-init : goal.loop-c-init
loop-c-init g c =
    (refl, λ plain. ([], record { wrote = record { parts = []; calls = refl; whole = refl }; plain = plain }, rw c.into_iter-c-iterator.ensures.into_iter_gives c.chars-c-items.ensures.rest))

pub loop-c-preserved : goal.loop-c-preserved
loop-c-preserved g c = (
  c.loop-c.invariant.0,
  λ plain.
      let so_far = c.loop-c.invariant.1 plain in
      let ch = encode_utf8 c.in-Some.c in (
        so_far.0 ++ ch,
        has_written_of_eq _ _ _ _ _ (sym (flat_map-append escape_byte so_far.0 ch))
            (has_written_append _ _ _ _ _ _ so_far.1 (c.in_ok-write_escaped.ensures so_far.1.plain refl)),
        append_assoc so_far.0 ch _ ∙ ap (λ (l : List ℕ). so_far.0 ++ l) (sym c.in-Some.ensures.steps.0) ∙ so_far.2,
      ),
)

pub returns : goal.returns
returns g c = record {
  ok = λ _. (
    c.loop-c.invariant.0,
    λ plain.
        let so_far = c.loop-c.invariant.1 plain in
        let none = nil_from_length _ c.in-None.ensures.steps.0.0 in
        has_written_of_eq _ _ _ _ _ (ap escape (sym (append-nil so_far.0) ∙ rw none at so_far.2)) so_far.1,
  );
}
