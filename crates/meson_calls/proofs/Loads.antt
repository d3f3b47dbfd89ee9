-- Files that were looked at one after another.
use Rattle.meson_calls.proofs.Words.{All, ◌≡◌, ℕ, zero, suc, ◌+◌, ◌<◌, List, [], ◌∷◌, ◌++◌, length, get_or, take, refl, sym, ap, ◌∙◌, subst, arith, take-suc}
use Rattle.meson_calls.proofs.Words.{All-append, All-cons, All-nil, bytes_at, File, IsSpanned, MayNotRead, view, Parsed, name_of_file, AreParsed, HasTree}
use Rattle.meson_calls.proofs.Words.{IsFirstUnread}
use Rattle.meson_syntax.specs.declared.fault.ParseFault.{ParseFault}
use Rattle.meson_calls.specs.declared.load_fault.LoadFault.{LoadFault}
use Rattle.meson_calls.specs.declared.load_fault.LoadFault.TheVariants.{TooManyFiles, BadFileName, Parse, OutOfMemory}
use Rattle.meson_calls.specs.inside.Loads.{TellsFault, MayNotParse}

pub take_more : {X : Type 0} (xs : List X) (i : ℕ) (d : X) → i < length xs → take (i + 1) xs ≡ take i xs ++ get_or xs i d ∷ []
take_more xs i d within = let step : i + 1 ≡ suc i = omega arith in ap (λ k. take k xs) step ∙ take-suc xs i d within

pub all_more : {X : Type 0} (P : X → Type 0) (xs : List X) (i : ℕ) (d : X) → i < length xs → All P (take i xs) → P (get_or xs i d) → All P (take (i + 1) xs)
all_more P xs i d within before here = subst (All P) (sym (take_more xs i d within)) (All-append P (take i xs) (get_or xs i d ∷ []) before (All-cons P (get_or xs i d) [] here (All-nil P)))

pub nth_name : (files : List File) (i : ℕ) (d : File) → i < length files → name_of_file i files ≡ (get_or files i d).name
nth_name [] i d within = absurd (omega arith)
nth_name (f ∷ files) zero d within = refl
nth_name (f ∷ files) (suc i) d within = let below : i < length files = omega arith in nth_name files i d below

pub nth_bytes : (files : List File) (i : ℕ) (d : File) → i < length files → bytes_at i files ≡ (get_or files i d).bytes
nth_bytes [] i d within = absurd (omega arith)
nth_bytes (f ∷ files) zero d within = refl
nth_bytes (f ∷ files) (suc i) d within = let below : i < length files = omega arith in nth_bytes files i d below

one_more : (files : List File) (parsed : List Parsed) (f : File) (t : Parsed) → AreParsed files parsed → IsSpanned f.bytes (view f.bytes t) → AreParsed (files ++ f ∷ []) (parsed ++ t ∷ [])
one_more [] [] f t before here = (here, tt)
one_more [] (u ∷ parsed) f t before here = absurd before
one_more (g ∷ files) [] f t before here = absurd before
one_more (g ∷ files) (u ∷ parsed) f t before here = (before.0, one_more files parsed f t before.1 here)

pub parsed_more : (files : List File) (parsed : List Parsed) (i : ℕ) (d : File) (t : Parsed) → i < length files → AreParsed (take i files) parsed →
    IsSpanned (bytes_at i files) (view (bytes_at i files) t) → AreParsed (take (i + 1) files) (parsed ++ t ∷ [])
parsed_more files parsed i d t within before here =
    subst (λ fs. AreParsed fs (parsed ++ t ∷ [])) (sym (take_more files i d within))
    (one_more (take i files) parsed (get_or files i d) t before (subst (λ bytes. IsSpanned bytes (view bytes t)) (nth_bytes files i d within) here))

pub have_trees : (files : List File) (parsed : List Parsed) → AreParsed files parsed → All HasTree files
have_trees [] parsed are = All-nil HasTree
have_trees (f ∷ files) [] are = absurd are
have_trees (f ∷ files) (t ∷ parsed) are = All-cons HasTree f files (_, are.0.reads) (have_trees files parsed are.1)

pub told_fault : (files : List File) (i : ℕ) (fault : ParseFault) (r : LoadFault) → TellsFault i fault r → i < length files → All HasTree (take i files) → MayNotRead (bytes_at i files) fault → MayNotParse files r
told_fault files i fault TooManyFiles tells within before why = tells
told_fault files i fault (BadFileName j) tells within before why = tells
told_fault files i fault (Parse j f) tells within before why =
    subst (λ k. IsFirstUnread files k f) (sym tells.0) (subst (λ g. IsFirstUnread files i g) (sym tells.1) (record { below = within; before = before; why = why; told = tells.2 }))
told_fault files i fault OutOfMemory tells within before why = tt

pub as_many : (files : List File) (parsed : List Parsed) → AreParsed files parsed → length parsed ≡ length files
as_many [] [] are = refl
as_many [] (t ∷ parsed) are = absurd are
as_many (f ∷ files) [] are = absurd are
as_many (f ∷ files) (t ∷ parsed) are = ap suc (as_many files parsed are.1)
