-- What is kept of the files that a command left as they were is so in the project that it left.
use Rattle.std.proofs.Common.{◌≡◌, ℕ, ◌<◌, ◌≤◌, List, length, get_or, refl, sym, ap, subst, ◌∙◌, arith}
use Rattle.std.specs.Prelude.{Bool, true, false, Ok, IsTrue, nat_lt}
use Rattle.std.proofs.lemmas.List.{get_or_past}
use Rattle.std.proofs.lemmas.Bool.Decides.{nat_tests}
use Rattle.meson_splice.specs.declared.splice.Splice.{Splice}
use Rattle.meson_splice.specs.Files.{bytes_at}
use Rattle.meson_splice.specs.Patch.{patched_all}
use Rattle.meson_syntax.specs.declared.tree.Parsed.{Parsed}
use Rattle.meson_syntax.specs.Reads.{IsSpanned}
use Rattle.meson_syntax.specs.View.{view}
use Rattle.meson_syntax.proofs.parsing.Unique.{one-spanned}
use Rattle.meson_calls.specs.Loading.{IsProject, Loaded}
use Rattle.meson_lex.specs.declared.kinds.Span.{Span}
use Rattle.meson_calls.specs.declared.kept.Kept.{Kept}
use Rattle.meson_calls.specs.declared.kept.Kept.TheVariants.{Unknown, Calls, Loops, Assignments}
use Rattle.meson_calls.specs.Parts.{Part, parts_of_file}
use Rattle.meson_calls.specs.Project.{Placed}
use Rattle.meson_calls.specs.Setters.{AreKept, IsKept, is_known}
use Rattle.meson_steps.specs.declared.work.Work.{Work}
use Rattle.meson_steps.specs.Done.{IsDone, Meaning}
use Rattle.meson_steps.specs.Working.{so_far}
use Rattle.meson_calls.proofs.CallsAt.{spanned_at}
use Rattle.meson_calls.proofs.Loads.{as_many}
use Rattle.meson_plan.specs.inside.Kept.{StayKept}
use Rattle.meson_plan.proofs.SplicesDone.{steps-patch}
use Rattle.meson_plan.proofs.UnchangedFiles.{leaves}

module _ (old new : Loaded) (was : IsProject old) (now : IsProject new) (many : length new.files ≡ length old.files) where
  -- a file with the same bytes has the same tree
  same_view : (i : ℕ) (d : Parsed) → bytes_at i new.files ≡ bytes_at i old.files
      → view (bytes_at i new.files) (get_or new.parsed i d) ≡ view (bytes_at i old.files) (get_or old.parsed i d)
  same_view i d same = go (nat_lt i (length old.parsed)) refl
    where
      go : (b : Bool) → nat_lt i (length old.parsed) ≡ b → view (bytes_at i new.files) (get_or new.parsed i d) ≡ view (bytes_at i old.files) (get_or old.parsed i d)
      go true is =
          let here : i < length old.parsed = grind (arith, nat_tests) in
          let olds = as_many old.files old.parsed was.parsed in
          let news = as_many new.files new.parsed now.parsed in
          let there : i < length new.parsed = omega arith in
          one-spanned (bytes_at i old.files) (view (bytes_at i new.files) (get_or new.parsed i d)) (view (bytes_at i old.files) (get_or old.parsed i d))
          (subst (λ b. IsSpanned b (view (bytes_at i new.files) (get_or new.parsed i d))) same (spanned_at new.files new.parsed i d there now.parsed))
          (spanned_at old.files old.parsed i d here was.parsed)
      go false is =
          let past : length old.parsed ≤ i = grind (arith, nat_tests) in
          let olds = as_many old.files old.parsed was.parsed in
          let news = as_many new.files new.parsed now.parsed in
          let beyond : length new.parsed ≤ i = omega arith in
          ap (view (bytes_at i new.files)) (get_or_past new.parsed i d beyond) ∙ ap (λ b. view b d) same ∙ sym (ap (view (bytes_at i old.files)) (get_or_past old.parsed i d past))

-- an entry is right if it is where something is known
kept_where_known : (e : Kept) (ps : List (Placed (Part Span))) → (IsTrue (is_known e) → IsKept e ps) → IsKept e ps
kept_where_known Unknown ps known = tt
kept_where_known Calls ps known = tt
kept_where_known Loops ps known = known refl
kept_where_known (Assignments ks) ps known = known refl

pub kept_after : (old new : Loaded) → IsProject old → IsProject new → (splices : List Splice) → patched_all old.files splices ≡ Ok new.files
    → (before after : List Kept) → AreKept before old.files old.parsed → StayKept before after new.files splices → AreKept after new.files new.parsed
kept_after old new was now splices done before after kept stay = λ i d.
    kept_where_known (get_or after i Unknown) (parts_of_file i (view (bytes_at i new.files) (get_or new.parsed i d))) (λ known.
    let left = leaves splices old.files new.files done in
    let stays = stay i known in
    let same = left.bytes i (λ n e within is. stays.1 n e within (left.places _ ∙ is)) in
    subst (λ f. IsKept (get_or after i Unknown) (parts_of_file i f)) (sym (same_view old new was now left.many i d same))
    (subst (λ e. IsKept e (parts_of_file i (view (bytes_at i old.files) (get_or old.parsed i d)))) (sym stays.0) (kept i d)))

-- so it is where steps are done
pub kept_done : (old : Loaded) (meant : Meaning) (w : Work) → IsProject old → IsDone old meant w → (before after : List Kept)
    → AreKept before old.files old.parsed → StayKept before after w.files w.splices.items → AreKept after w.files w.trees.items
kept_done old meant w was done before after kept stay =
    kept_after old (so_far w) was done.project w.splices.items
    (steps-patch old.files done.steps w.splices.items w.files done.made.bytes done.made.are_done) before after kept stay
