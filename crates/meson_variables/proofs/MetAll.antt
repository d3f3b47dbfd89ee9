-- What the code gathers of the arguments of a call.
use Rattle.meson_variables.proofs.Words.{◌≡◌, ℕ, ◌<◌, ◌≤◌, List, [], ◌∷◌, length, drop, refl, sym, ap, ◌∙◌, arith, Span, Arg, value_without_name}
use Rattle.meson_variables.proofs.Words.{value_with_name, sources_key, rest, kept_args, Project, place, CallRef, arguments_by, with_hidden, in_list, fixed}
use Rattle.meson_variables.proofs.Words.{opaque, Gathered, expanded, with_mark, no_marks}

pub hidden_some : {Y : Type 0} (g : Gathered) (ks : List Y) → 0 < length ks → with_hidden g ks ≡ with_mark g opaque
hidden_some g [] some = absurd (omega arith)
hidden_some g (k ∷ ks) some = refl

pub hidden_none : {Y : Type 0} (g : Gathered) (ks : List Y) → length ks ≤ 0 → with_hidden g ks ≡ g
hidden_none g [] none = refl
hidden_none g (k ∷ ks) none = absurd (omega arith)

module _ (p : Project Span) (left : ℕ) (c : CallRef) (source : List ℕ) (args : List Arg) where
  abbrev pub both : Gathered
  both =
      expanded (expanded no_marks (arguments_by p left c (in_list c) (rest (kept_args source value_without_name 0 args))))
      (arguments_by p left c (λ n. fixed) (kept_args source (value_with_name sources_key) 0 args))

  pub met_both : (path path2 key : List ℕ) (from : ℕ) (none first second : Gathered) → none ≡ no_marks → path ≡ c.path.steps → path2 ≡ path → key ≡ sources_key →
      first ≡ expanded none (arguments_by p left (place c.file path) (in_list (place c.file path)) (kept_args source value_without_name from (drop from args))) →
      rest (kept_args source value_without_name 0 args) ≡ kept_args source value_without_name from (drop from args) →
      second ≡ expanded first (arguments_by p left (place c.file path2) (λ n. fixed) (kept_args source (value_with_name key) 0 args)) → second ≡ both
  met_both path path2 key from none first second starts is_path back is_key plains behind named =
      let by = arguments_by p left c (λ n. fixed) (kept_args source (value_with_name sources_key) 0 args) in
      named
      ∙ ap (λ q. expanded first (arguments_by p left (place c.file q) (λ n. fixed) (kept_args source (value_with_name key) 0 args))) (back ∙ is_path)
      ∙ ap (λ k. expanded first (arguments_by p left c (λ n. fixed) (kept_args source (value_with_name k) 0 args))) is_key
      ∙ ap (λ g. expanded g by)
      (plains
      ∙ ap (λ g. expanded g (arguments_by p left (place c.file path) (in_list (place c.file path)) (kept_args source value_without_name from (drop from args)))) starts
      ∙ ap (λ q. expanded no_marks (arguments_by p left (place c.file q) (in_list (place c.file q)) (kept_args source value_without_name from (drop from args)))) is_path
      ∙ ap (λ xs. expanded no_marks (arguments_by p left c (in_list c) xs)) (sym behind))
