-- Between two steps of a command stands one thing: a text has one tree with its places, within whatever limits.
use Rattle.meson_steps.proofs.Words.{◌≡◌, ℕ, suc, ◌<◌, List, [], ◌∷◌, length, slice_index_or, refl, sym, ap, ap₂, ◌∙◌, subst, arith, bytes_at, File}
use Rattle.meson_steps.proofs.Words.{IsSpannedWithin, view, Limits, Parsed, views, saturated, AreKnown, limits_of}
use Rattle.meson_steps.specs.OneStanding.{OneStanding}
use Rattle.meson_steps.proofs.OneMaking.{one-making, one_spanned}

abbrev Read : List File → List Parsed → Type 0
Read files trees = (k : ℕ) (d : Parsed) → k < length files → (limits : Limits) × IsSpannedWithin limits (bytes_at k files) (view (bytes_at k files) (slice_index_or trees k d))

same_views : (files : List File) (s t : List Parsed) → length s ≡ length files → length t ≡ length files → Read files s → Read files t → views files s ≡ views files t
same_views [] s t many more first second = refl
same_views (f ∷ files) [] t many more first second = absurd (omega (arith, many))
same_views (f ∷ files) (x ∷ s) [] many more first second = absurd (omega (arith, more))
same_views (f ∷ files) (x ∷ s) (y ∷ t) many more first second =
    let a = first 0 x (omega arith) in
    let b = second 0 y (omega arith) in
    ap₂ (λ d ds. d ∷ ds) (one_spanned a.0 b.0 f.bytes (view f.bytes x) (view f.bytes y) a.1 b.1)
    (same_views files s t (omega (arith, many)) (omega (arith, more)) (λ k d within. first (suc k) d (omega (arith, within))) (λ k d within. second (suc k) d (omega (arith, within))))

read : (saved : List _) (files : List File) (trees : List Parsed) → AreKnown saved files trees → Read files trees
read saved files trees known k d within = (limits_of saved k, known.each k d within)

pub one_standing : OneStanding
one_standing old steps now other made remade known again =
    let one = one-making old.files steps now.splices other.splices now.files other.files made.bytes remade.bytes made.are_done remade.are_done in
    let many : length other.trees ≡ length now.files = again.as_many ∙ ap length (sym one.1) in
    let second : Read now.files other.trees = subst (λ fs. Read fs other.trees) (sym one.1) (read other.saved other.files other.trees again) in
    record {
      splices = one.0;
      files = one.1;
      trees = same_views now.files now.trees other.trees known.as_many many (read now.saved now.files now.trees known) second ∙ ap (λ fs. views fs other.trees) one.1;
      relexed = made.is_relexed ∙ ap saturated one.2 ∙ sym remade.is_relexed;
    }
