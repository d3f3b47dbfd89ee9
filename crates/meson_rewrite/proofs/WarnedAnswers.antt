-- What is said with warnings is what is said without them, and more.
use Rattle.std.proofs.Common.{◌≡◌, ◌⊎◌, ◌-◌, ◌∙◌, ℕ, Bool, true, false, List, [], ◌∷◌, ◌++◌, Option, Some, None, append_assoc, ap, arith, codes, inl, inr, length, length-append, map, refl, subst, sym, take}
use Rattle.std.proofs.lemmas.List.{take-append-le, take_all}
use Rattle.json.specs.Print.{quoted}
use Rattle.serde_json.proofs.OnLiterals.{serde_json_on_literals}
use Rattle.serde_json.specs.Data.{Data, Members, array, member, no_members, number, object, string, unsigned}
use Rattle.serde_json.specs.View.{items_of}
use Rattle.serde_json.specs.Written.{compact_text, members_text}
use Rattle.meson_calls.specs.Loading.{Loaded}
use Rattle.meson_command.specs.declared.asked.Flags.{Flags}
use Rattle.meson_script.specs.declared.session.Report.{Report}
use Rattle.meson_script.specs.declared.session.Session.{Session}
use Rattle.meson_splice.specs.declared.file_set.File.{File}
use Rattle.meson_steps.specs.declared.command.Command.{Command}
use Rattle.meson_rewrite.specs.AdviceLaws.{SaysWarnings, and_warnings}
use Rattle.meson_rewrite.specs.Lines.{line}
use Rattle.meson_rewrite.specs.Notes.{note_data}
use Rattle.meson_rewrite.specs.Objects.{SaysObject, file_edits_data}
use Rattle.meson_rewrite.specs.Steps.{SaysStep, ShowsStep}
use Rattle.meson_rewrite.specs.Warnings.{AreWarnings, IsWarned, Warns, no_warnings, run_of, warned, with_gathered, with_warnings}
use Rattle.meson_rewrite.specs.declared.notes.PlacedNote.{PlacedNote}
use Rattle.meson_rewrite.specs.declared.request.Step.{Step}
use Rattle.meson_rewrite.specs.declared.request.Step.TheVariants.{Run}
use Rattle.meson_rewrite.specs.declared.said.Said.{Said}
use Rattle.meson_rewrite.specs.declared.warnings.Warnings.{Warnings}
use Rattle.meson_rewrite.specs.declared.warnings.Warnings.TheVariants.{Nothing, Lines, Placed}

-- ---- the text of members, without the closing bracket

abbrev front : Members → List ℕ
front no_members = []
front (member key d more) = 44 ∷ (quoted key ++ 58 ∷ (compact_text d ++ front more))

parts : (k c f t : List ℕ) → 44 ∷ (k ++ 58 ∷ (c ++ (f ++ t))) ≡ (44 ∷ (k ++ 58 ∷ (c ++ f))) ++ t
parts k c f t = simp append_assoc

ends : (ms : Members) → members_text true ms ≡ front ms ++ 125 ∷ []
ends no_members = refl
ends (member key d more) =
    ap (λ t. 44 ∷ (quoted key ++ 58 ∷ (compact_text d ++ t))) (ends more) ∙ parts (quoted key) (compact_text d) (front more) (125 ∷ [])

abbrev last : Data → List ℕ
last found = 44 ∷ (quoted (codes "warnings") ++ 58 ∷ (compact_text found ++ 125 ∷ []))

ends-with : (found : Data) (ms : Members) → members_text true (and_warnings ms found) ≡ front ms ++ last found
ends-with found no_members = refl
ends-with found (member key d more) =
    ap (λ t. 44 ∷ (quoted key ++ 58 ∷ (compact_text d ++ t))) (ends-with found more) ∙ parts (quoted key) (compact_text d) (front more) (last found)

-- ---- the line of an object

around : (k c f t e : List ℕ) → (123 ∷ (k ++ 58 ∷ (c ++ (f ++ t)))) ++ e ≡ (123 ∷ (k ++ 58 ∷ (c ++ f))) ++ (t ++ e)
around k c f t e = simp append_assoc

cut : (text : List ℕ) → take (length (text ++ 125 ∷ 10 ∷ []) - 2) (text ++ 125 ∷ 10 ∷ []) ≡ text
cut text =
    let whole : List ℕ = text ++ 125 ∷ 10 ∷ [] in
    let same : length whole - 2 ≡ length text = omega (arith, length-append text (125 ∷ 10 ∷ [])) in
    ap (λ n. take n whole) same ∙ take-append-le (length text) text (125 ∷ 10 ∷ []) (omega arith) ∙ take_all (length text) text (omega arith)

ended : (text e : List ℕ) → text ++ 125 ∷ e ≡ (text ++ 125 ∷ []) ++ e
ended text e = simp append_assoc

last-is : (found : Data) → last found ++ 10 ∷ [] ≡ codes ",\"warnings\":" ++ (compact_text found ++ codes "}\n")
unfolding serde_json_on_literals
last-is found = ap (λ t. codes ",\"warnings\":" ++ t) (sym (ended (compact_text found) (10 ∷ [])))

module _ (key : List ℕ) (d : Data) (more : Members) where
  abbrev opened : List ℕ
  opened = 123 ∷ (quoted key ++ 58 ∷ (compact_text d ++ front more))

  line-is : line (compact_text (object (member key d more))) ≡ opened ++ 125 ∷ 10 ∷ []
  line-is =
      ap (λ t. (123 ∷ (quoted key ++ 58 ∷ (compact_text d ++ t))) ++ 10 ∷ []) (ends more)
      ∙ around (quoted key) (compact_text d) (front more) (125 ∷ []) (10 ∷ [])

  line-with : (found : Data) → line (compact_text (object (and_warnings (member key d more) found))) ≡ opened ++ (last found ++ 10 ∷ [])
  line-with found =
      ap (λ t. (123 ∷ (quoted key ++ 58 ∷ (compact_text d ++ t))) ++ 10 ∷ []) (ends-with found more)
      ∙ around (quoted key) (compact_text d) (front more) (last found) (10 ∷ [])

  pub with-member : (notes : List PlacedNote)
      → with_warnings notes (line (compact_text (object (member key d more)))) ≡ line (compact_text (object (and_warnings (member key d more) (array (items_of (map note_data notes))))))
  with-member notes =
      let found = array (items_of (map note_data notes)) in
      let tail = codes ",\"warnings\":" ++ (compact_text found ++ codes "}\n") in
      ap (with_warnings notes) line-is ∙ ap (λ t. t ++ tail) (cut opened) ∙ ap (λ t. opened ++ t) (sym (last-is found)) ∙ sym (line-with found)

-- ---- what is said of a run

-- a line of an object that has members
record IsAnswer (said : Said) : Type 0 where
  key : List ℕ
  first : Data
  more : Members
  text : said.out ≡ line (compact_text (object (member key first more)))

run-answer : (step : Step) (commands : List Command) → run_of step ≡ Some commands → (old new : List File) (report : Report) (said : Said)
    → SaysObject step old new report said → IsAnswer said
run-answer (Run script title) commands run old new report said (changes, are, listings, text, says) = record {
  key = codes "changes";
  first = array (items_of (map file_edits_data changes));
  more =
      member (codes "files") (number (unsigned report.files)) (member (codes "info") (array (items_of listings))
      (member (codes "splices") (number (unsigned report.splices)) (member (codes "title") (string report.title) no_members)));
  text = ap (λ (s : Said). s.out) says;
}
run-answer _ commands run old new report said says = absurd (let no : ⊥ = cc in no)

said-with : (json : Bool) (old : Loaded) (w : Warnings) (commands : List Command) (plain said : Said) → AreWarnings json old commands w
    → (json ≡ true → IsAnswer plain) → said ≡ warned w plain → SaysWarnings json plain said
said-with false old (Lines text) commands plain said are answer is = (text, is)
said-with true old (Placed notes) commands plain said are answer is =
    let a = answer refl in (
      member a.key a.first a.more,
      array (items_of (map note_data notes)),
      a.text,
      is ∙ ap (λ t. record plain { out = t }) (ap (with_warnings notes) a.text ∙ with-member a.key a.first a.more notes),
    )
said-with false old Nothing commands plain said are answer is = absurd are
said-with false old (Placed notes) commands plain said are answer is = absurd are
said-with true old Nothing commands plain said are answer is = absurd are
said-with true old (Lines text) commands plain said are answer is = absurd are

warned-says : (flags : Flags) (old : Loaded) (step : Step) (plain said : Said) → ((commands : List Command) → run_of step ≡ Some commands → flags.json ≡ true → IsAnswer plain)
    → (w : Warnings) → IsWarned flags old step w → said ≡ warned w plain → (said ≡ plain) ⊎ SaysWarnings flags.json plain said
warned-says flags old step plain said answer _ no_warnings is = inl is
warned-says flags old step plain said answer _ (with_gathered commands w run explain are) is =
    inr (said-with flags.json old w commands plain said are (answer commands run) is)

module _ (flags : Flags) (step : Step) (old new : Session) (report : Report) (plain said : Said) where
  pub done-warned : SaysStep flags.json step old.project.files new.project.files report plain → Warns flags old.project step plain said
      → (said ≡ plain) ⊎ SaysWarnings flags.json plain said
  done-warned says warns =
      warned-says flags old.project step plain said
      (λ commands run json. run-answer step commands run old.project.files new.project.files report plain
      (subst (λ j. SaysStep j step old.project.files new.project.files report plain) json says))
      warns.warnings warns.are warns.is

  pub shown-warned : ShowsStep flags.json step old report new plain → Warns flags old.project step plain said
      → (said ≡ plain) ⊎ SaysWarnings flags.json plain said
  shown-warned shows warns =
      warned-says flags old.project step plain said
      (λ commands run json. run-answer step commands run old.project.files new.project.files report plain
      (subst (λ j. ShowsStep j step old report new plain) json shows))
      warns.warnings warns.are warns.is
