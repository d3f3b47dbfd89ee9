-- Calls of a writer into a JSON string are calls of the writer outside it, with the escaped text.
use Rattle.std.proofs.Common.{◌≡◌, ℕ, List, [], ◌∷◌, Option, None, Some, Result, Ok, Err, option_map, OnOk, refl, sym, ap, ◌∙◌, subst}
use Rattle.std.proofs.Output.{has_written_append, has_written_of_eq}
use Rattle.std.proofs.lemmas.Grind.{flat_map-append}
use Rattle.std.specs.Fmt.{DisplaysOnOk, HasWritten, IsPlainFormatter, WritesText}
use Rattle.std.specs.List.{FoldsTo, concat}
use Rattle.std.specs.declared.fmt.Error.{Error}
use Rattle.std.specs.declared.fmt.Formatter.{Formatter}
use Rattle.json.specs.Print.{escape, escape_byte}
use Rattle.meson_rewrite.specs.declared.quoted.Inside.{Inside}

module _ {W : Type 0} (took : W → List ℕ → W → Type 0) where
  -- what a call of it gives
  abbrev pub InsideTook : Inside W → List ℕ → Inside W → Type 0
  InsideTook s text t = (t.to.ghost_name ≡ s.to.ghost_name) × (IsPlainFormatter s.to.now → HasWritten took s.to.now (escape text) t.to.now)

  nothing : (f : Formatter W) → IsPlainFormatter f → HasWritten took f [] f
  nothing f plain = record { wrote = record { parts = []; calls = refl; whole = refl }; plain = plain }

  calls : (s : Inside W) (parts : List (List ℕ)) (t : Inside W) → FoldsTo InsideTook s parts t → InsideTook s (concat parts) t
  calls s [] t p = (ap (λ (x : Inside W). x.to.ghost_name) (sym p), λ plain. subst (λ (x : Inside W). HasWritten took s.to.now [] x.to.now) p (nothing s.to.now plain))
  calls s (x ∷ xs) t p =
      let rest = calls p.0 xs t p.2 in (
        rest.0 ∙ p.1.0,
        λ plain.
            let first = p.1.1 plain in
            has_written_of_eq _ _ _ _ _ (sym (flat_map-append escape_byte x (concat xs))) (has_written_append _ _ _ _ _ _ first (rest.1 first.plain)),
      )

  -- the writer outside is g once the loan has ended
  pub text_inside : (s t : Inside W) (g : Formatter W) (r : Result (Unit {0}) Error) (o : Option (List ℕ)) → (t.to.ghost_name ≡ s.to.ghost_name → g ≡ t.to.now)
      → OnOk r (WritesText InsideTook s o t) → DisplaysOnOk took s.to.now r (option_map escape o) g
  text_inside s t g r None back h = tt
  text_inside s t g (Err e) (Some bs) back h = λ plain ok. cc
  text_inside s t g (Ok u) (Some bs) back h = λ plain ok.
      let done = calls s h.parts t h.calls in
      subst (HasWritten took s.to.now (escape bs)) (sym (back done.0)) (has_written_of_eq _ _ _ _ _ (ap escape h.whole) (done.1 plain))
