-- Files whose places no splice names keep their bytes.
use Rattle.std.proofs.Common.{◌≡◌, ◌≢◌, ℕ, List, [], ◌∷◌, length, get_or, refl, sym, ap, subst, ◌∙◌}
use Rattle.std.specs.Prelude.{All, Result, Ok, Err, Option, Some, None}
use Rattle.std.proofs.lemmas.List.Elements.{All-head, All-tail}
use Rattle.meson_splice.specs.declared.fault.SpliceFault.{SpliceFault}
use Rattle.meson_splice.specs.declared.file_set.File.{File}
use Rattle.meson_splice.specs.declared.splice.Splice.{Splice}
use Rattle.meson_splice.specs.Files.{bytes_at, position_of_file, with_bytes}
use Rattle.meson_splice.specs.Patch.{patched, patched_all, patched_in, then_ok}
use Rattle.meson_splice.proofs.Sets.{found-same, len-same, patched_in-found, patched_in-none}
use Rattle.meson_steps.proofs.OtherBytes.{bytes_elsewhere}

-- Files before and after splices: each stands where it stood, and has its bytes where no splice is of that place.
pub record Leaves (splices : List Splice) (files new : List File) : Type 0 where
  pub many : length new ≡ length files
  pub places : (name : List ℕ) → position_of_file name new ≡ position_of_file name files
  pub bytes : (k : ℕ) → All (λ s. position_of_file s.file files ≢ Some k) splices → bytes_at k new ≡ bytes_at k files

-- after one splice
pub record LeavesOne (s : Splice) (files new : List File) : Type 0 where
  pub many : length new ≡ length files
  pub places : (name : List ℕ) → position_of_file name new ≡ position_of_file name files
  pub bytes : (k : ℕ) → position_of_file s.file files ≢ Some k → bytes_at k new ≡ bytes_at k files

at_one : (files new : List File) (s : Splice) (i : ℕ) → position_of_file s.file files ≡ Some i → (r : Result (List ℕ) SpliceFault)
    → then_ok r (λ b. Ok (with_bytes i b files)) ≡ Ok new → LeavesOne s files new
at_one files new s i there (Ok b) done =
    let same : with_bytes i b files ≡ new = cc in
    subst (LeavesOne s files) same
    (record { many = len-same files i b; places = λ name. found-same name files i b; bytes = λ k other. bytes_elsewhere files i k b (λ is. other (there ∙ ap Some (sym is))) })
at_one files new s i there (Err e) done = absurd cc

one : (files new : List File) (s : Splice) → patched_in files s ≡ Ok new → LeavesOne s files new
one files new s done = go (position_of_file s.file files) refl
  where
    go : (o : Option ℕ) → position_of_file s.file files ≡ o → LeavesOne s files new
    go (Some i) there = at_one files new s i there (patched (bytes_at i files) s) (sym (patched_in-found files s i there) ∙ done)
    go None there = absurd (let none = patched_in-none files s there in cc)

after_first : (s : Splice) (more : List Splice) (files next new : List File) → LeavesOne s files next → Leaves more next new → Leaves (s ∷ more) files new
after_first s more files next new now later =
    record {
      many = later.many ∙ now.many;
      places = λ name. later.places name ∙ now.places name;
      bytes = λ k all.
          later.bytes k (λ n d within. λ is. All-tail (λ t. position_of_file t.file files ≢ Some k) s more all n d within (sym (now.places (get_or more n d).file) ∙ is))
          ∙ now.bytes k (All-head (λ t. position_of_file t.file files ≢ Some k) s more all);
    }

pub leaves : (splices : List Splice) (files new : List File) → patched_all files splices ≡ Ok new → Leaves splices files new
leaves [] files new done = let same : files ≡ new = cc in subst (Leaves [] files) same (record { many = refl; places = λ name. refl; bytes = λ k all. refl })
leaves (s ∷ more) files new done = go (λ next. leaves more next new) (patched_in files s) refl done
  where
    go : ((next : List File) → patched_all next more ≡ Ok new → Leaves more next new) → (r : Result (List File) SpliceFault) → patched_in files s ≡ r
        → then_ok r (λ next. patched_all next more) ≡ Ok new → Leaves (s ∷ more) files new
    go later (Ok next) first rest = after_first s more files next new (one files next s first) (later next rest)
    go later (Err e) first rest = absurd cc
