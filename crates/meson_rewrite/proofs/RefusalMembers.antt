-- What is found in the object of a refusal.
use Rattle.std.proofs.Common.{◌≡◌, ℕ, List, Option, None, Some, codes, refl, ◌∙◌}
use Rattle.serde_json.specs.Data.{Data, Members, member}
use Rattle.serde_json.specs.Find.{get_member}
use Rattle.meson_rewrite.specs.Refused.{stop_command, stop_entry, stop_file, stop_help, stop_left, stop_offset, with_number, with_text, with_texts}
use Rattle.meson_rewrite.specs.RefusalLaws.{MembersAreWords}

-- a member with the one key is passed in search of the other
abbrev Passed : List ℕ → List ℕ → Type 0
Passed wanted key = (d : Data) (more : Members) → get_member wanted (member key d more) ≡ get_member wanted more

past_number : (wanted key : List ℕ) (o : Option ℕ) (more : Members) → Passed wanted key → get_member wanted (with_number key o more) ≡ get_member wanted more
past_number wanted key None more passed = refl
past_number wanted key (Some n) more passed = passed _ more

past_text : (wanted key : List ℕ) (o : Option (List ℕ)) (more : Members) → Passed wanted key → get_member wanted (with_text key o more) ≡ get_member wanted more
past_text wanted key None more passed = refl
past_text wanted key (Some text) more passed = passed _ more

past_texts : (wanted key : List ℕ) (o : Option (List (List ℕ))) (more : Members) → Passed wanted key → get_member wanted (with_texts key o more) ≡ get_member wanted more
past_texts wanted key None more passed = refl
past_texts wanted key (Some texts) more passed = passed _ more

pub members_are_words : MembersAreWords
members_are_words stop = (
  past_number (codes "message") (codes "at") (stop_offset stop) _ (λ d more. refl)
      ∙ past_number (codes "message") (codes "command") (stop_command stop) _ (λ d more. refl)
      ∙ past_number (codes "message") (codes "entry") (stop_entry stop) _ (λ d more. refl)
      ∙ past_text (codes "message") (codes "file") (stop_file stop) _ (λ d more. refl)
      ∙ past_texts (codes "message") (codes "help") (stop_help stop) _ (λ d more. refl)
      ∙ past_texts (codes "message") (codes "left") (stop_left stop) _ (λ d more. refl),
  past_number (codes "code") (codes "at") (stop_offset stop) _ (λ d more. refl),
)
