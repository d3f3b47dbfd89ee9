-- A script has one outcome, by induction on its commands.
use Rattle.std.proofs.Common.{◌≡◌, ℕ, ◌+◌, List, [], ◌∷◌, ◌++◌, ◌⊎◌, inl, inr, length, Result, Ok, refl, sym, ap, ap₂, ◌∙◌, subst, append_assoc}
use Rattle.serde_json.specs.Data.{Data}
use Rattle.meson_splice.specs.declared.splice.Splice.{Splice}
use Rattle.meson_calls.specs.declared.refusal.Refusal.{Refusal}
use Rattle.meson_calls.specs.Loading.{IsProject, Loaded}
use Rattle.meson_steps.specs.declared.command.Command.{Command}
use Rattle.meson_steps.specs.declared.command.Done.{Done}
use Rattle.meson_steps.specs.ResultLimits.{plain_trees, saturated}
use Rattle.meson_plan.specs.Performing.{MayRefuse, Performs}
use Rattle.meson_plan.specs.Listing.{told}
use Rattle.meson_script.specs.Running.{MayStop, Runs, nothing_ran, ran_more}
use Rattle.meson_script.specs.Outcomes.{NotStopped, OneResult, OneStop}
use Rattle.meson_script.proofs.Outcomes.{not-refused, one-outcome, one-refusal}
use Rattle.meson_script.proofs.SameTrees.{Same, one-project, performs-same, refuses-same, told-same}
use Rattle.meson_script.proofs.StepFacts.{last-ends}

-- ---- lists of commands

no-inside : (xs : List Command) (x : Command) (ys : List Command) → [] ≡ xs ++ x ∷ ys → ⊥
no-inside [] x ys e = let bad : ⊥ = cc in bad
no-inside (w ∷ xs) x ys e = let bad : ⊥ = cc in bad

-- a list is empty, or has a last one
last-of : (xs : List Command) → (xs ≡ []) ⊎ ((front : List Command) × (last : Command) × (xs ≡ front ++ last ∷ []))
last-of [] = inl refl
last-of (x ∷ xs) = go (last-of xs)
  where
    go : (xs ≡ []) ⊎ ((front : List Command) × (last : Command) × (xs ≡ front ++ last ∷ [])) → (x ∷ xs ≡ []) ⊎ ((front : List Command) × (last : Command) × (x ∷ xs ≡ front ++ last ∷ []))
    go (inl e) = inr ([], x, ap (λ ys. x ∷ ys) e)
    go (inr e) = inr (x ∷ e.0, e.1, ap (λ ys. x ∷ ys) e.2)

-- a command in each of two splits of a list: it is the same one, or one stands before the other
data Compared (xs : List Command) (x : Command) (ys : List Command) (y : Command) : Type 0 where
  level : xs ≡ ys → x ≡ y → Compared xs x ys y
  earlier : (rest : List Command) → ys ≡ xs ++ x ∷ rest → Compared xs x ys y
  later : (rest : List Command) → xs ≡ ys ++ y ∷ rest → Compared xs x ys y

one-behind : (a b : Command) (xs ys : List Command) (x y : Command) → a ≡ b → Compared xs x ys y → Compared (a ∷ xs) x (b ∷ ys) y
one-behind a b xs ys x y same (level front here) = level (ap₂ (λ c cs. c ∷ cs) same front) here
one-behind a b xs ys x y same (earlier rest is) = earlier rest (ap₂ (λ c cs. c ∷ cs) (sym same) is)
one-behind a b xs ys x y same (later rest is) = later rest (ap₂ (λ c cs. c ∷ cs) same is)

compared : (xs ys us vs : List Command) (x y : Command) → xs ++ x ∷ us ≡ ys ++ y ∷ vs → Compared xs x ys y
compared [] [] us vs x y e = level refl (cc)
compared [] (b ∷ ys) us vs x y e = let first : b ≡ x = cc in earlier ys (ap (λ c. c ∷ ys) first)
compared (a ∷ xs) [] us vs x y e = let first : a ≡ y = cc in later xs (ap (λ c. c ∷ xs) first)
compared (a ∷ xs) (b ∷ ys) us vs x y e =
    let first : a ≡ b = cc in
    let rest : xs ++ x ∷ us ≡ ys ++ y ∷ vs = cc in
    one-behind a b xs ys x y first (compared xs ys us vs x y rest)

-- ---- the last command

-- commands of which the last one ran on what those before it left
record Last (old : Loaded) (commands : List Command) (splices : List Splice) (relexed : ℕ) (listings : List Data) (new : Loaded) : Type 0 where
  before : List Command
  here : List Splice
  read : ℕ
  lists : List Data
  between : Loaded
  runs : Runs old before here read lists between
  reads : IsProject between
  command : Command
  done : Done
  more : List Data
  tells : told between command ≡ Ok more
  performs : Performs between command done new
  are : commands ≡ before ++ command ∷ []
  spliced : splices ≡ here ++ done.change.splices
  counted : relexed ≡ saturated (read + done.relexed)
  listed : listings ≡ lists ++ more

-- no command, or a last one
data Ended (old : Loaded) (commands : List Command) (splices : List Splice) (relexed : ℕ) (listings : List Data) (new : Loaded) : Type 0 where
  none : commands ≡ [] → splices ≡ [] → relexed ≡ 0 → listings ≡ [] → new ≡ old → Ended old commands splices relexed listings new
  some : Last old commands splices relexed listings new → Ended old commands splices relexed listings new

ended : (old : Loaded) (commands : List Command) (splices : List Splice) (relexed : ℕ) (listings : List Data) (new : Loaded)
    → Runs old commands splices relexed listings new → Ended old commands splices relexed listings new
ended old commands splices relexed listings new (nothing_ran) = none refl refl refl refl refl
ended old commands splices relexed listings new (ran_more before here read lists between runs reads c done more after tells performs) =
    some (record {
      before = before;
      here = here;
      read = read;
      lists = lists;
      between = between;
      runs = runs;
      reads = reads;
      command = c;
      done = done;
      more = more;
      tells = tells;
      performs = performs;
      are = refl;
      spliced = refl;
      counted = refl;
      listed = refl;
    })

-- ---- one result

abbrev Alike : List Splice → List Splice → ℕ → ℕ → List Data → List Data → Loaded → Loaded → Type 0
Alike splices others relexed read listings lists new next = (splices ≡ others) × (relexed ≡ read) × (listings ≡ lists) × (new.files ≡ next.files) × (plain_trees new ≡ plain_trees next)

nothing-alike : (old next : Loaded) (others : List Splice) (read : ℕ) (lists : List Data) → Ended old [] others read lists next → Alike [] others 0 read [] lists old next
nothing-alike old next others read lists (none are spliced counted listed is) = (sym spliced, sym counted, sym listed, ap (λ l. l.files) (sym is), ap plain_trees (sym is))
nothing-alike old next others read lists (some l) = absurd (no-inside l.before l.command [] l.are)

same-listings : (more lists : List Data) (r : Result (List Data) Refusal) → r ≡ Ok more → r ≡ Ok lists → more ≡ lists
same-listings more lists r p q = let both : ◌≡◌ {A = Result (List Data) Refusal} (Ok more) (Ok lists) = sym p ∙ q in cc

-- the same command on the same files and trees
one-more-alike : (p q : Loaded) (c : Command) (done other : Done) (more lists : List Data) (new next : Loaded) → Same p q
    → told p c ≡ Ok more → told q c ≡ Ok lists → Performs p c done new → Performs q c other next
    → (done ≡ other) × (more ≡ lists) × (new.files ≡ next.files) × (plain_trees new ≡ plain_trees next)
one-more-alike p q c done other more lists new next s tells told_too performs performed =
    let o = one-outcome q c done other new next (performs-same p q c done new s performs) performed in
    (o.0, same-listings more lists (told q c) (sym (told-same p q s c) ∙ tells) told_too, o.1, o.2)

same-between : (p q : Loaded) → IsProject p → IsProject q → p.files ≡ q.files → Same p q
same-between p q h k is = record { files = is; trees = one-project p q h k is }

last-alike : (old between new next : Loaded) (before : List Command) (here others : List Splice) (read relexed : ℕ) (lists listings : List Data) (c : Command) (done : Done) (more : List Data)
    → IsProject between → told between c ≡ Ok more → Performs between c done new
    → ((ss : List Splice) (n : ℕ) (ds : List Data) (l : Loaded) → Runs old before ss n ds l → Alike here ss read n lists ds between l)
    → Ended old (before ++ c ∷ []) others relexed listings next
    → Alike (here ++ done.change.splices) others (saturated (read + done.relexed)) relexed (lists ++ more) listings new next
last-alike old between new next before here others read relexed lists listings c done more reads tells performs rest (none are spliced counted listed is) =
    absurd (no-inside before c [] (sym are))
last-alike old between new next before here others read relexed lists listings c done more reads tells performs rest (some l) =
    let ends = last-ends before l.before c l.command l.are in
    let r = rest l.here l.read l.lists l.between (subst (λ cs. Runs old cs l.here l.read l.lists l.between) (sym ends.0) l.runs) in
    let told_too = subst (λ d. told l.between d ≡ Ok l.more) (sym ends.1) l.tells in
    let performed = subst (λ d. Performs l.between d l.done next) (sym ends.1) l.performs in
    let o = one-more-alike between l.between c done l.done more l.more new next (same-between between l.between reads l.reads r.3) tells told_too performs performed in (
      ap₂ (λ x y. x ++ y) r.0 (ap (λ d. d.change.splices) o.0) ∙ sym l.spliced,
      ap₂ (λ x y. saturated (x + y)) r.1 (ap (λ d. d.relexed) o.0) ∙ sym l.counted,
      ap₂ (λ x y. x ++ y) r.2 o.1 ∙ sym l.listed,
      o.2,
      o.3,
    )

pub one-result : OneResult
one-result old commands splices others relexed read listings lists new next (nothing_ran) q = nothing-alike old next others read lists (ended old [] others read lists next q)
one-result old commands splices others relexed read listings lists new next (ran_more before here bytes told_before between runs reads c done more after tells performs) q =
    last-alike old between new next before here others bytes read told_before lists c done more reads tells performs
    (λ ss n ds l r. one-result old before here ss bytes n told_before ds between l runs r) (ended old (before ++ c ∷ []) others read lists next q)

-- ---- no refusal where it is done

-- a command of a script ran on what those before it left
record RanAt (old : Loaded) (before : List Command) (c : Command) : Type 0 where
  splices : List Splice
  relexed : ℕ
  listings : List Data
  between : Loaded
  runs : Runs old before splices relexed listings between
  reads : IsProject between
  done : Done
  new : Loaded
  performs : Performs between c done new

ran-at : (old new : Loaded) (commands : List Command) (splices : List Splice) (relexed : ℕ) (listings : List Data) → Runs old commands splices relexed listings new
    → (before : List Command) (c : Command) (behind : List Command) → commands ≡ before ++ c ∷ behind → RanAt old before c
ran-at old new commands splices relexed listings (nothing_ran) before c behind are = absurd (no-inside before c behind are)
ran-at old new commands splices relexed listings (ran_more front here read lists between runs reads d done more after tells performs) before c behind are =
    go (λ cs is. ran-at old between front here read lists runs before c cs is) (last-of behind)
  where
    last_ran : RanAt old front d
    last_ran = record { splices = here; relexed = read; listings = lists; between = between; runs = runs; reads = reads; done = done; new = after; performs = performs }

    go : ((cs : List Command) → front ≡ before ++ c ∷ cs → RanAt old before c) → (behind ≡ []) ⊎ ((cs : List Command) × (last : Command) × (behind ≡ cs ++ last ∷ [])) → RanAt old before c
    go rest (inl e) =
        let ends = last-ends front before d c (are ∙ ap (λ cs. before ++ c ∷ cs) e) in
        subst (λ x. RanAt old before x) ends.1 (subst (λ cs. RanAt old cs d) ends.0 last_ran)
    go rest (inr e) =
        let ends = last-ends front (before ++ c ∷ e.0) d e.1 (are ∙ ap (λ cs. before ++ c ∷ cs) e.2 ∙ sym (append_assoc before (c ∷ e.0) (e.1 ∷ []))) in
        rest e.0 ends.0

pub not-stopped : NotStopped
not-stopped old commands splices relexed listings new index e p stop =
    let r = ran-at old new commands splices relexed listings p stop.before stop.command stop.after stop.are in
    let a = one-result old stop.before r.splices stop.splices r.relexed stop.relexed r.listings stop.listings r.between stop.between r.runs stop.runs in
    let same = same-between r.between stop.between r.reads stop.reads a.3 in
    not-refused stop.between stop.command r.done r.new e (performs-same r.between stop.between stop.command r.done r.new same r.performs) stop.refuses

-- ---- one refusal

-- a command that is refused is not among those before another one
not-before : (old : Loaded) (commands others : List Command) (i j : ℕ) (e f : Refusal) (p : MayStop old commands i e) (q : MayStop old others j f) (rest : List Command) → q.before ≡ p.before ++ p.command ∷ rest → ⊥
not-before old commands others i j e f p q rest is =
    not-stopped old q.before q.splices q.relexed q.listings q.between i e q.runs
    (record {
      before = p.before;
      command = p.command;
      after = rest;
      are = is;
      is_index = p.is_index;
      splices = p.splices;
      relexed = p.relexed;
      listings = p.listings;
      between = p.between;
      runs = p.runs;
      reads = p.reads;
      refuses = p.refuses;
    })

pub one-stop : OneStop
one-stop old commands i j e f p q = go (compared p.before q.before p.after q.after p.command q.command (sym p.are ∙ q.are))
  where
    go : Compared p.before p.command q.before q.command → (i ≡ j) × (e ≡ f)
    go (level front here) =
        let runs = subst (λ cs. Runs old cs q.splices q.relexed q.listings q.between) (sym front) q.runs in
        let a = one-result old p.before p.splices q.splices p.relexed q.relexed p.listings q.listings p.between q.between p.runs runs in
        let same = same-between p.between q.between p.reads q.reads a.3 in
        let refuses = subst (λ c. MayRefuse q.between c e) here (refuses-same p.between q.between p.command e same p.refuses) in
        (p.is_index ∙ ap length front ∙ sym q.is_index, one-refusal q.between q.command e f refuses q.refuses)
    go (earlier rest is) = absurd (not-before old commands commands i j e f p q rest is)
    go (later rest is) = absurd (not-before old commands commands j i f e q p rest is)
