-- The new text of a list, where the splices of a step made it, and the list that is read there.
use Rattle.meson_steps.proofs.Words.{◌≡◌, ℕ, ◌+◌, ◌-◌, ◌<◌, ◌≤◌, List, ◌++◌, length, length-append, Option, Some, None, sym, ap, ◌∙◌, subst, arith, slice_range}
use Rattle.meson_steps.proofs.Words.{◌^◌, Ok, option_map, bytes_at, patched_all, File, Splice, furthest_list, list_at, IsSpannedListWithin, ReadsListWithin}
use Rattle.meson_steps.proofs.Words.{erase_listing, list_view, view, Parsed, some-injective, CallRef, wide_depth, MayChangeList, MayReadList, spot_at, ListSpot}
use Rattle.meson_syntax.specs.declared.tree.List as rust
use Rattle.meson_syntax.proofs.Slices.{slice_range-part}
use Rattle.meson_steps.proofs.ListTaken.{list_ends}
use Rattle.meson_steps.proofs.PatchedFiles.{same_files}

-- the same, by a spot that is equal
abbrev pub at_spot : (before : List File) (file : ℕ) (splices : List Splice) (s u : ListSpot) → MayReadList before file splices s → s ≡ u → MayReadList before file splices u
at_spot before file splices s u m same = record {
  files = m.files;
  is = m.is;
  front = m.front;
  was = m.was;
  now = m.now;
  back = m.back;
  old = m.old;
  new = m.new;
  from = m.from ∙ ap (λ (x : ListSpot). x.span.from) same;
  to = m.to ∙ ap (λ (x : ListSpot). x.span.to) same;
  list = m.list;
  reads_list = subst (λ (x : ListSpot). ReadsListWithin wide_depth x.bracket m.now m.list) same m.reads_list;
}

module _ (before_files : List File) (file : ℕ) (splices : List Splice) (s : ListSpot) (m : MayReadList before_files file splices s) where
  abbrev before : List ℕ
  before = bytes_at file before_files

  abbrev pub after : List ℕ
  after = m.front ++ (m.now ++ m.back)

  before_is : length before ≡ length m.front + (length m.was + length m.back)
  before_is = omega (arith, ap length m.old, length-append m.front (m.was ++ m.back), length-append m.was m.back)

  after_is : length after ≡ length m.front + (length m.now + length m.back)
  after_is = omega (arith, length-append m.front (m.now ++ m.back), length-append m.now m.back)

  to_is : s.span.to ≡ length m.front + length m.was
  to_is = sym m.to ∙ length-append m.front m.was

  pub ordered : s.span.from ≤ s.span.to
  ordered = omega (arith, m.from, to_is)

  was_is : s.span.to - s.span.from ≡ length m.was
  was_is = omega (arith, m.from, to_is)

  module _ (old : List ℕ) (old_is : old ≡ before) where
    pub old_within : s.span.to - s.span.from ≤ length old
    old_within = omega (arith, was_is, before_is, ap length old_is)

    module _ (files : List File) (done : patched_all before_files splices ≡ Ok files) (new : List ℕ) (new_is : new ≡ bytes_at file files) where
      pub new_text : bytes_at file files ≡ after
      new_text = ap (bytes_at file) (same_files files m.files (patched_all before_files splices) done m.is) ∙ m.new

      -- how many bytes the new list has
      abbrev pub size : ℕ
      size = length new - (length old - (s.span.to - s.span.from))

      pub around_fits : length old - (s.span.to - s.span.from) ≤ length new
      around_fits = omega (arith, was_is, before_is, after_is, ap length old_is, ap length new_is, ap length new_text)

      pub size_is : size ≡ length m.now
      size_is = omega (arith, was_is, before_is, after_is, ap length old_is, ap length new_is, ap length new_text)

      pub size_within : s.span.from + size ≤ length new
      size_within = omega (arith, m.from, size_is, after_is, ap length new_text, ap length new_is)

      module _ (text : List ℕ) (text_of : text ≡ slice_range new s.span.from (s.span.from + size)) where
        same_text : text ≡ m.now
        same_text = text_of ∙ slice_range-part new m.front m.now m.back s.span.from _ (new_is ∙ new_text) m.from (ap (λ n. s.span.from + n) size_is)

        pub reads_list : ReadsListWithin wide_depth s.bracket text m.list
        reads_list = subst (λ x. ReadsListWithin wide_depth s.bracket x m.list) (sym same_text) m.reads_list

        module _ (list : rust.List) (spanned : IsSpannedListWithin wide_depth s.bracket text (list_view text list)) where
          pub is_own : IsSpannedListWithin wide_depth s.bracket m.now (list_view m.now list)
          is_own = subst (λ x. IsSpannedListWithin wide_depth s.bracket x (list_view x list)) same_text spanned

          pub found_own : erase_listing (list_view text list) ≡ m.list → erase_listing (list_view m.now list) ≡ m.list
          found_own found = sym (ap (λ x. erase_listing (list_view x list)) same_text) ∙ found

          pub own_fits : length new < 2 ^ 64 → furthest_list list + s.span.from < 2 ^ 64
          own_fits fits = omega (arith, list_ends wide_depth s.bracket m.now list is_own, m.from, after_is, ap length new_text, ap length new_is, fits)

-- ---- the place

module _ (files : List File) (place : CallRef) (splices : List Splice) (t : Parsed) (m : MayChangeList files place splices t) where
  spot_is : (o : Option ListSpot) → ((source : List ℕ) → o ≡ option_map spot_at (list_at (view source t) place.path.steps)) → o ≡ Some (spot_at m.p)
  spot_is o is = is (bytes_at place.file files) ∙ ap (option_map spot_at) m.is_p

  module _ (u : Parsed) (same : u ≡ t) where
    pub spot_there : (s : ListSpot) → ((source : List ℕ) → Some s ≡ option_map spot_at (list_at (view source u) place.path.steps)) → spot_at m.p ≡ s
    spot_there s is = sym (some-injective _ _ (spot_is (Some s) (λ source. is source ∙ ap (λ x. option_map spot_at (list_at (view source x) place.path.steps)) same)))

    pub no_spot : ((source : List ℕ) → None ≡ option_map spot_at (list_at (view source u) place.path.steps)) → ⊥
    no_spot is = let some = spot_is None (λ source. is source ∙ ap (λ x. option_map spot_at (list_at (view source x) place.path.steps)) same) in cc
