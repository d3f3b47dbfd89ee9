-- Names and the paths that they mean.
use Rattle.std.proofs.Common.{◌≡◌, ℕ, ◌+◌, ◌<◌, List, [], ◌∷◌, ◌++◌, length, get_or, drop, map, refl, sym, ap, append_assoc, add-one, ◌∙◌}
use Rattle.std.specs.Prelude.{Bool, true, false, not, filter, if◌then◌else◌}
use Rattle.std.specs.List.{list_any}
use Rattle.std.proofs.Math.Seq.{drop-cons}
use Rattle.meson_lex.specs.declared.kinds.Span.{Span}
use Rattle.meson_calls.specs.NamedArguments.{rest}
use Rattle.meson_calls.specs.Project.{Project}
use Rattle.meson_calls.specs.Roles.{one_of}
use Rattle.meson_followed.specs.declared.named.Named.{Named}
use Rattle.meson_followed.specs.CodeEdits.{AreNamed, name_now, path_now}
use Rattle.meson_followed.specs.FollowedEdits.{is_sure_at, new_sources}
use Rattle.meson_followed.specs.Sources.{MetSource, distinct_paths, distinct_paths_by, named_path}

head_of : List (List ℕ) → List ℕ
head_of [] = []
head_of (x ∷ xs) = x

module _ (p : Project Span) (n : ℕ) where
  module _ (names : List (List ℕ)) (i : ℕ) (d : List ℕ) (within : i < length names) (all paths : List (List ℕ)) where
    abbrev here : List ℕ
    here = get_or names i d

    abbrev later : List (List ℕ)
    later = drop (i + 1) names

    rest_is : drop i names ≡ here ∷ later
    rest_is = drop-cons names i d within ∙ ap (λ k. here ∷ drop k names) (sym (add-one i))

    abbrev from_here : Bool → List (List ℕ)
    from_here b = if b then distinct_paths_by p n paths later else here ∷ distinct_paths_by p n (paths ++ named_path p n here ∷ []) later

    pub path_is_new : one_of paths (named_path p n here) ≡ false
        → (all ++ here ∷ []) ++ distinct_paths_by p n (paths ++ named_path p n here ∷ []) later ≡ all ++ distinct_paths_by p n paths (drop i names)
    path_is_new unseen =
        append_assoc all (here ∷ []) (distinct_paths_by p n (paths ++ named_path p n here ∷ []) later)
        ∙ ap (λ b. all ++ from_here b) (sym unseen)
        ∙ ap (λ ys. all ++ distinct_paths_by p n paths ys) (sym rest_is)

    pub path_is_seen : one_of paths (named_path p n here) ≡ true → all ++ distinct_paths_by p n paths later ≡ all ++ distinct_paths_by p n paths (drop i names)
    path_is_seen seen = ap (λ b. all ++ from_here b) (sym seen) ∙ ap (λ ys. all ++ distinct_paths_by p n paths ys) (sym rest_is)

  -- ---- names that mean no sure source

  module _ (sources : List MetSource) where
    abbrev pub is_new_at : List ℕ → Bool
    is_new_at path = not (list_any (is_sure_at path) sources)

    new_are : (named : List Named) → map path_now named ≡ map (named_path p n) (map name_now named)
        → map name_now (filter (λ x. is_new_at (path_now x)) named) ≡ filter (λ name. is_new_at (named_path p n name)) (map name_now named)
    unfolding head_of
    new_are [] are = refl
    new_are (x ∷ xs) are =
        let more = new_are xs (ap rest are) in
        go (is_new_at (path_now x)) more ∙ ap (λ path. if is_new_at path then name_now x ∷ filter (λ name. is_new_at (named_path p n name)) (map name_now xs)
        else filter (λ name. is_new_at (named_path p n name)) (map name_now xs)) (ap head_of are)
      where
        go : (b : Bool) → map name_now (filter (λ y. is_new_at (path_now y)) xs) ≡ filter (λ name. is_new_at (named_path p n name)) (map name_now xs)
            → map name_now (if b then x ∷ filter (λ y. is_new_at (path_now y)) xs else filter (λ y. is_new_at (path_now y)) xs)
            ≡ (if b then name_now x ∷ filter (λ name. is_new_at (named_path p n name)) (map name_now xs)
            else filter (λ name. is_new_at (named_path p n name)) (map name_now xs))
        go true more = ap (λ ys. name_now x ∷ ys) more
        go false more = more

    pub new_sources_are : (names : List (List ℕ)) (named : List Named) → AreNamed p n (distinct_paths p n names) named
        → map name_now (filter (λ x. is_new_at (path_now x)) named) ≡ new_sources p n sources names
    new_sources_are names named are =
        new_are named (are.are_paths ∙ ap (map (named_path p n)) (sym are.are_names))
        ∙ ap (filter (λ name. is_new_at (named_path p n name))) are.are_names
