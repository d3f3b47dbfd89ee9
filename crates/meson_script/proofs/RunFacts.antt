-- The files and names after commands.
use Rattle.std.proofs.Common.{◌≡◌, ℕ, suc, ◌+◌, ◌<◌, ◌≤◌, subst, length-take, take, drop, length, get_or, arith, List, [], ◌∷◌, ◌++◌, Bool, true, false, map, Result, Ok, Err, refl, sym, ap, ◌∙◌, inl, inr}
use Rattle.std.specs.Prelude.{bytes_eq, if◌then◌else◌}
use Rattle.std.proofs.lemmas.List.{take_more}
use Rattle.std.proofs.Math.Seq.{split_at}
use Rattle.serde_json.specs.Data.{Data}
use Rattle.meson_splice.specs.declared.fault.SpliceFault.{SpliceFault}
use Rattle.meson_splice.specs.declared.file_set.File.{File}
use Rattle.meson_splice.specs.declared.splice.Splice.{Splice}
use Rattle.meson_splice.specs.Patch.{patched, patched_in, patched_all, then_ok}
use Rattle.meson_calls.specs.Loading.{IsProject, Loaded}
use Rattle.meson_steps.specs.declared.command.Command.{Command}
use Rattle.meson_steps.specs.declared.command.Done.{Done}
use Rattle.meson_steps.specs.ResultLimits.{saturated}
use Rattle.meson_calls.specs.declared.refusal.Refusal.{Refusal}
use Rattle.meson_plan.specs.Performing.{MayRefuse, Performs}
use Rattle.meson_plan.proofs.SplicesDone.{joined, performs-patch, performs-text, texts-append}
use Rattle.meson_plan.specs.Listing.{told}
use Rattle.meson_script.specs.declared.listings.ListingForm.{ListingForm}
use Rattle.meson_script.specs.Listings.{Added, Lists, listings_text}
use Rattle.meson_script.specs.Running.{MayStop, Reaches, Runs, RunsShowing, RunsTo, StopsDuring, nothing_ran, nothing_shown, ran_more, shown_more}
use Rattle.meson_script.specs.Laws.{RunsPatch, RunsText}

pub runs-patch : RunsPatch
runs-patch old new commands splices relexed listings (nothing_ran) = refl
runs-patch old new commands splices relexed listings (ran_more before here read lists between rest reads c done more after tells performs) =
    joined old.files between.files new.files here done.change.splices (runs-patch old between before here read lists rest) (performs-patch between c done new performs)

pub runs-text : RunsText
runs-text old new commands splices relexed listings (nothing_ran) = tt
runs-text old new commands splices relexed listings (ran_more before here read lists between rest reads c done more after tells performs) =
    texts-append here done.change.splices (runs-text old between before here read lists rest) (performs-text between c done new performs)

-- ---- names stay

abbrev pub names : List File → List (List ℕ)
names files = map (λ f. f.name) files

abbrev Patched : Type 0
Patched = Result (List File) SpliceFault

same_ok : (x y : List File) → ◌≡◌ {A = Patched} (Ok x) (Ok y) → x ≡ y
same_ok x y e = cc

no_ok : (fault : SpliceFault) (y : List File) → ◌≡◌ {A = Patched} (Err fault) (Ok y) → ⊥
no_ok fault y e = cc

splice-names : (files : List File) (s : Splice) (after : List File) → patched_in files s ≡ Ok after → names files ≡ names after
splice-names [] s after e = absurd (no_ok _ after e)
splice-names (f ∷ files) s after e = go (splice-names files s) (bytes_eq f.name s.file) e
  where
    here : (r : Result (List ℕ) SpliceFault) → then_ok r (λ b. let p : Patched = Ok (record f { bytes = b } ∷ files) in p) ≡ Ok after → names (f ∷ files) ≡ names after
    here (Ok b) is = ap names (same_ok (record f { bytes = b } ∷ files) after is)
    here (Err fault) is = absurd (no_ok fault after is)

    later : (rest : (more : List File) → patched_in files s ≡ Ok more → names files ≡ names more) (r : Patched) → patched_in files s ≡ r → then_ok r (λ more. let p : Patched = Ok (f ∷ more) in p) ≡ Ok after → names (f ∷ files) ≡ names after
    later rest (Ok more) so is = ap (λ ns. f.name ∷ ns) (rest more so) ∙ ap names (same_ok (f ∷ more) after is)
    later rest (Err fault) so is = absurd (no_ok fault after is)

    go : ((more : List File) → patched_in files s ≡ Ok more → names files ≡ names more) → (b : Bool) → (if b then then_ok (patched f.bytes s) (λ c. let p : Patched = Ok (record f { bytes = c } ∷ files) in p) else then_ok (patched_in files s) (λ more. let p : Patched = Ok (f ∷ more) in p)) ≡ Ok after →
        names (f ∷ files) ≡ names after
    go rest true is = here (patched f.bytes s) is
    go rest false is = later rest (patched_in files s) refl is

pub change-names : (files : List File) (splices : List Splice) (after : List File) → patched_all files splices ≡ Ok after → names files ≡ names after
change-names files [] after e = ap names (same_ok files after e)
change-names files (s ∷ splices) after e = go (λ more. change-names more splices after) (patched_in files s) refl e
  where
    go : ((more : List File) → patched_all more splices ≡ Ok after → names more ≡ names after) → (r : Patched) → patched_in files s ≡ r → then_ok r (λ more. patched_all more splices) ≡ Ok after →
        names files ≡ names after
    go rest (Ok more) so is = splice-names files s more so ∙ rest more is
    go rest (Err fault) so is = absurd (no_ok fault after is)

-- ---- one command after another

taken-more : (commands : List Command) (i : ℕ) (c : Command) → i < length commands → c ≡ get_or commands i c → take i commands ++ c ∷ [] ≡ take (i + 1) commands
taken-more commands i c within is = ap (λ x. take i commands ++ x ∷ []) is ∙ sym (take_more commands i c within)

pub one-more : (old between new : Loaded) (commands : List Command) (i : ℕ) (here : List Splice) (read : ℕ) (lists more : List Data) (c : Command) (done : Done)
    → Runs old (take i commands) here read lists between → IsProject between → i < length commands → c ≡ get_or commands i c → told between c ≡ Ok more → Performs between c done new
    → Runs old (take (i + 1) commands) (here ++ done.change.splices) (saturated (read + done.relexed)) (lists ++ more) new
one-more old between new commands i here read lists more c done ran reads within is tells performs =
    subst (λ cs. Runs old cs (here ++ done.change.splices) (saturated (read + done.relexed)) (lists ++ more) new) (taken-more commands i c within is)
    (ran_more (take i commands) here read lists between ran reads c done more new tells performs)

-- what is listed in a form belongs to a run
pub runs-of : {form : ListingForm} {old : Loaded} {commands : List Command} {splices : List Splice} {relexed : ℕ} {shown : List Data} {new : Loaded}
    → RunsShowing form old commands splices relexed shown new → (listings : List Data) × Runs old commands splices relexed listings new
runs-of (nothing_shown) = ([], nothing_ran)
runs-of (shown_more before here read lists between rest reads c done plain more after tells listed performs) =
    let r = runs-of rest in
    (r.0 ++ plain, ran_more before here read r.0 between r.1 reads c done plain after tells performs)

pub nothing-run : (form : ListingForm) (old : Loaded) (splices : List Splice) (info : List ℕ) → splices ≡ [] → info ≡ [] → RunsTo form old [] splices 0 info old
nothing-run form old splices info is none = record { shown = []; runs = subst (λ ss. RunsShowing form old [] ss 0 [] old) (sym is) nothing_shown; is_text = none }

pub one-more-to : (form : ListingForm) (old between new : Loaded) (commands : List Command) (i : ℕ) (here splices : List Splice) (read relexed : ℕ) (before after : List ℕ) (c : Command) (done : Done)
    → RunsTo form old (take i commands) here read before between → IsProject between → i < length commands → c ≡ get_or commands i c
    → ((shown : List Data) → before ≡ listings_text shown → Added form between c shown after) → Performs between c done new
    → splices ≡ here ++ done.change.splices → relexed ≡ saturated (read + done.relexed) → RunsTo form old (take (i + 1) commands) splices relexed after new
one-more-to form old between new commands i here splices read relexed before after c done ran reads within is adds performs are counted =
    let a = adds ran.shown ran.is_text in
    let all = shown_more (take i commands) here read ran.shown between ran.runs reads c done a.plain a.more new a.is_plain a.lists performs in
    let taken = subst (λ cs. RunsShowing form old cs (here ++ done.change.splices) (saturated (read + done.relexed)) (ran.shown ++ a.more) new) (taken-more commands i c within is) all in
    let spliced = subst (λ ss. RunsShowing form old (take (i + 1) commands) ss (saturated (read + done.relexed)) (ran.shown ++ a.more) new) (sym are) taken in
    record {
      shown = ran.shown ++ a.more;
      runs = subst (λ n. RunsShowing form old (take (i + 1) commands) splices n (ran.shown ++ a.more) new) (sym counted) spliced;
      is_text = a.is_text;
    }

taken_len : {A : Type 0} (xs : List A) (i : ℕ) → i < length xs → i ≡ length (take i xs)
taken_len xs i within = grind (arith, length-take)

pub stops-there : (old between : Loaded) (commands : List Command) (i : ℕ) (here : List Splice) (read : ℕ) (lists : List Data) (c : Command) (e : Refusal)
    → Runs old (take i commands) here read lists between → IsProject between → i < length commands → c ≡ get_or commands i c → MayRefuse between c e → MayStop old commands i e
stops-there old between commands i here read lists c e ran reads within is refuses = record {
  before = take i commands;
  command = c;
  after = drop (suc i) commands;
  are = split_at commands i c within ∙ ap (λ x. take i commands ++ x ∷ drop (suc i) commands) (sym is);
  is_index = taken_len commands i within;
  splices = here;
  relexed = read;
  listings = lists;
  between = between;
  runs = ran;
  reads = reads;
  refuses = refuses;
}

-- ---- how far commands came

pub reaches : (old between : Loaded) (commands : List Command) (i : ℕ) (here : List Splice) (read : ℕ) (lists : List Data) → Runs old (take i commands) here read lists between → i ≤ length commands → (0 < length commands → i < length commands) → Reaches old commands i
reaches old between commands i here read lists ran within is_command = record { within = within; is_command = is_command; splices = here; relexed = read; listings = lists; between = between; runs = ran }

pub reaches-none : (old : Loaded) (commands : List Command) (i : ℕ) → i ≡ 0 → Reaches old commands i
reaches-none old commands i is = subst (Reaches old commands) (sym is) (reaches old old commands 0 [] 0 [] nothing_ran (omega arith) (λ some. some))

-- commands that end when one of them is done
stops-behind : (old new : Loaded) (commands : List Command) (i : ℕ) (here : List Splice) (read : ℕ) (lists : List Data) → Runs old (take (i + 1) commands) here read lists new → i < length commands → StopsDuring old commands i new
stops-behind old new commands i here read lists ran within = record { within = within; done = i + 1; is_done = inr refl; splices = here; relexed = read; listings = lists; runs = ran }

pub stops-after : (old between new : Loaded) (commands : List Command) (i : ℕ) (here : List Splice) (read : ℕ) (lists more : List Data) (c : Command) (done : Done)
    → Runs old (take i commands) here read lists between → IsProject between → i < length commands → c ≡ get_or commands i c → told between c ≡ Ok more → Performs between c done new
    → StopsDuring old commands i new
stops-after old between new commands i here read lists more c done ran reads within is tells performs =
    stops-behind old new commands i (here ++ done.change.splices) (saturated (read + done.relexed)) (lists ++ more) (one-more old between new commands i here read lists more c done ran reads within is tells performs) within

-- or before it is done
pub stops-before : (old between new : Loaded) (commands : List Command) (i : ℕ) (here : List Splice) (read : ℕ) (lists : List Data) → Runs old (take i commands) here read lists between → i < length commands
    → new ≡ between → StopsDuring old commands i new
stops-before old between new commands i here read lists ran within same =
    record { within = within; done = i; is_done = inl refl; splices = here; relexed = read; listings = lists; runs = subst (Runs old (take i commands) here read lists) (sym same) ran }

-- ---- one command alone

pub one-run : (form : ListingForm) (old new : Loaded) (c : Command) (done : Done) (plain more : List Data) → IsProject old → told old c ≡ Ok plain → Lists form old c more → Performs old c done new
    → RunsShowing form old (c ∷ []) done.change.splices done.relexed more new
one-run form old new c done plain more reads tells listed performs =
    let counted = performs.is_relexed in
    let same : saturated (0 + done.relexed) ≡ done.relexed = omega arith in
    subst (λ n. RunsShowing form old (c ∷ []) done.change.splices n more new) same (shown_more [] [] 0 [] old nothing_shown reads c done plain more new tells listed performs)

pub one-stops : (old : Loaded) (c : Command) (e : Refusal) → IsProject old → MayRefuse old c e → MayStop old (c ∷ []) 0 e
one-stops old c e reads refuses = record {
  before = [];
  command = c;
  after = [];
  are = refl;
  is_index = refl;
  splices = [];
  relexed = 0;
  listings = [];
  between = old;
  runs = nothing_ran;
  reads = reads;
  refuses = refuses;
}
