-- What is gathered of commands, one after another, and what is said with it.
use Rattle.std.proofs.Common.{◌≡◌, ◌⊎◌, ◌<◌, ◌≤◌, ◌+◌, ◌∙◌, ℕ, List, [], ◌∷◌, ◌++◌, append_assoc, ap, arith, drop, get_or, inl, inr, length, slice_index_or, subst, sym}
use Rattle.std.proofs.lemmas.List.{append-nil, at_drop_more}
use Rattle.meson_calls.specs.Loading.{Loaded}
use Rattle.meson_plan.specs.Performing.{Performs}
use Rattle.meson_steps.specs.declared.command.Command.{Command}
use Rattle.meson_steps.specs.declared.command.Done.{Done}
use Rattle.meson_command.specs.declared.asked.Flags.{Flags}
use Rattle.meson_rewrite.specs.Warnings.{Gathers, IsWarned, Warns, gathers_last, gathers_more, gathers_nothing, no_warnings, warned}
use Rattle.meson_rewrite.specs.declared.request.Step.{Step}
use Rattle.meson_rewrite.specs.declared.said.Said.{Said}
use Rattle.meson_rewrite.specs.declared.warnings.Warnings.{Warnings}
use Rattle.meson_rewrite.specs.declared.warnings.Warnings.TheVariants.{Nothing}

-- a list of one
pub one-of : (cs : List Command) (d : Command) → 1 ≤ length cs → length cs < 2 → d ≡ slice_index_or cs 0 d → cs ≡ d ∷ []
one-of [] d least below is = absurd (omega (arith, least))
one-of (c ∷ []) d least below is = ap (λ k. k ∷ []) (sym is)
one-of (c ∷ e ∷ more) d least below is = absurd (omega (arith, below))

module _ (X : Type 0) (each : Loaded → Command → List X) (old : Loaded) (commands : List Command) where
  -- what is gathered of the commands that are left comes after what there is so far
  abbrev pub SoFar : Loaded → List Command → List X → Type 0
  SoFar found left xs = (more : List X) → Gathers X each found left more → Gathers X each old commands (xs ++ more)

  pub begins : (found : Loaded) (xs : List X) → found ≡ old → xs ≡ [] → SoFar found commands xs
  begins found xs same none more gathers =
      subst (λ ys. Gathers X each old commands (ys ++ more)) (sym none) (subst (λ l. Gathers X each l commands more) same gathers)

  pub one_more : (found next : Loaded) (done : Done) (i : ℕ) (d c : Command) (xs ys : List X) → i < length commands → c ≡ get_or commands i d
      → SoFar found (drop i commands) xs → ys ≡ xs ++ each found c → Performs found c done next → SoFar next (drop (i + 1) commands) ys
  one_more found next done i d c xs ys within is so_far pushed performs more gathers =
      let rest = drop (i + 1) commands in
      let there : drop i commands ≡ c ∷ rest = at_drop_more (λ cs. cs) commands i d within ∙ ap (λ k. k ∷ rest) (sym is) in
      subst (Gathers X each old commands) (sym (append_assoc xs (each found c) more) ∙ ap (λ zs. zs ++ more) (sym pushed))
      (so_far (each found c ++ more) (subst (λ cs. Gathers X each found cs (each found c ++ more)) (sym there) (gathers_more found c done next rest more performs gathers)))

  pub ends : (found : Loaded) (left : List Command) (xs : List X) → left ≡ [] → SoFar found left xs → Gathers X each old commands xs
  ends found left xs none so_far =
      subst (Gathers X each old commands) (append-nil xs) (so_far [] (subst (λ cs. Gathers X each found cs []) (sym none) (gathers_nothing found)))

  pub one_alone : (c : Command) (xs : List X) → commands ≡ c ∷ [] → xs ≡ each old c → Gathers X each old commands xs
  one_alone c xs is are = subst (λ cs. Gathers X each old cs xs) (sym is) (subst (Gathers X each old (c ∷ [])) (sym are) (gathers_last old c))

-- with its warnings, or without them where memory ran out
pub said-warns : (flags : Flags) (old : Loaded) (step : Step) (plain said : Said) (w : Warnings) → IsWarned flags old step w → (said ≡ warned w plain) ⊎ (said ≡ plain)
    → Warns flags old step plain said
said-warns flags old step plain said w are (inl is) = record { warnings = w; are = are; is = is }
said-warns flags old step plain said w are (inr is) = record { warnings = Nothing; are = no_warnings; is = is }
