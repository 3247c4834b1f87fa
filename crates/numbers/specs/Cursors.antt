-- What putting bytes at a cursor does.
use Rattle.std.specs.Prelude.{◌≡◌, ℕ, ◌+◌, ◌≤◌, List, length}
use Rattle.std.proofs.lemmas.List.Edits.{sets}
use Rattle.numbers.specs.declared.cursors.Cursor.{Cursor}

-- the bytes have room at the cursor
abbrev pub HasRoom : List ℕ → Cursor → Type 0
HasRoom bytes c = c.at + length bytes ≤ length c.out.now

-- the bytes are put at the cursor, which then stands after them in the same slice, and all other bytes are left
pub record Puts (bytes : List ℕ) (was is : Cursor) : Type 0 where
  pub same : is.out.ghost_name ≡ was.out.ghost_name
  pub size : length is.out.now ≡ length was.out.now
  pub at : is.at ≡ was.at + length bytes
  pub out : is.out.now ≡ sets was.out.now was.at bytes
