-- Files that are known between two steps.
use Rattle.meson_steps.proofs.Words.{◌≡◌, ℕ, ◌<◌, inl, inr, Bool, List, [], length, get_or, sym, ap, ◌∙◌, subst, arith, if◌then◌else◌, slice_set, cases_eq}
use Rattle.meson_steps.proofs.Words.{get_or-set_other, get_or-set_same, length-set, bytes_at, with_bytes, File, IsSpannedWithin, of_files, wide, view, Limits}
use Rattle.meson_steps.proofs.Words.{Parsed, AreParsed, as_many, is_saved, AreKnown, limits_of, Saved, IsSavedToo}
use Rattle.meson_calls.proofs.CallsAt.{spanned_at}
use Rattle.meson_steps.proofs.OtherBytes.{as_many_files, bytes_elsewhere, bytes_there}

-- ---- none of them changed

pub known_first : (files : List File) (trees : List Parsed) → AreParsed files trees → AreKnown [] files trees
known_first files trees are =
    let many = as_many files trees are in
    record { as_many = many; each = λ k d within. let there : k < length trees = omega (arith, many, within) in spanned_at files trees k d there are }

-- ---- one of them changed

abbrev Reads : Limits → List ℕ → Parsed → Type 0
Reads limits bytes t = IsSpannedWithin limits bytes (view bytes t)

reads_same : (limits others : Limits) (bytes text : List ℕ) (t u : Parsed) → limits ≡ others → bytes ≡ text → t ≡ u → Reads others text u → Reads limits bytes t
reads_same limits others bytes text t u same alike is reads =
    subst (λ l. Reads l bytes t) (sym same) (subst (λ b. Reads others b t) (sym alike) (subst (Reads others text) (sym is) reads))

abbrev by_saved : Bool → Limits
by_saved saved = if saved then wide else of_files

pub known_with : (saved after : List Saved) (files : List File) (trees : List Parsed) (i : ℕ) (text : List ℕ) (t : Parsed) → AreKnown saved files trees → i < length files → IsSavedToo i saved after
    → Reads wide text t → AreKnown after (with_bytes i text files) (slice_set trees i t)
known_with saved after files trees i text t known within too read =
    let many = as_many_files files i text in
    let alike = known.as_many in
    let there : i < length trees = omega (arith, within, alike) in
    record {
      as_many = length-set trees i t ∙ alike ∙ sym many;
      each = λ k d inside. elim (cases_eq k i) [
        | inl same ↦
            reads_same (limits_of after k) wide (bytes_at k (with_bytes i text files)) text (get_or (slice_set trees i t) k d) t
            (ap by_saved (ap (λ j. is_saved j after) same ∙ too.here))
            (ap (λ j. bytes_at j (with_bytes i text files)) same ∙ bytes_there files i text within)
            (ap (λ j. get_or (slice_set trees i t) j d) same ∙ get_or-set_same trees i t d there)
            read
        | inr other ↦
            let below : k < length files = omega (arith, inside, many) in
            reads_same (limits_of after k) (limits_of saved k) (bytes_at k (with_bytes i text files)) (bytes_at k files) (get_or (slice_set trees i t) k d) (get_or trees k d)
            (ap by_saved (too.others k other))
            (bytes_elsewhere files i k text other)
            (get_or-set_other trees i k t d other)
            (known.each k d below)
      ];
    }
