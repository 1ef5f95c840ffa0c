-- `text_length` meets its contract: an answer that is not an error is a text.
use Rattle.std.proofs.Common.{ℕ, ◌≡◌, true, refl, is_ok, Result, Ok, Err}
use Rattle.words.specs.declared.NoRoom.{NoRoom}
use Rattle.words.specs.Answer.{no_room}
use Rattle.finder.proofs.text_length.Goals as goal

has-text : (r : Result ℕ NoRoom) → (r ≡ Err no_room → ⊥) → is_ok r ≡ true
has-text (Ok n) h = refl
has-text (Err e) h = absurd (h refl)

pub unwrap-requires : goal.unwrap-requires
unwrap-requires c = has-text _ c.requires
