-- The calls `row` and `row_refusal`: what they answer, for every input. Both are told by the one definition of a row request.
-- Assumes nothing.
use Rattle.std.specs.Prelude.{◌≡◌, ℕ, ◌+◌, Bool, true, false, List, [], take, drop, Result, Ok, Err}
use Rattle.std.specs.Borrow.{Bor}
use Rattle.ground.specs.Refusals.{number_of}
use Rattle.ground.specs.declared.refusals.Refusal.{Refusal}
use Rattle.subchars.specs.declared.Code.{Code}
use Rattle.request.specs.declared.RowPlace.{RowPlace}
use Rattle.request.specs.Request.{row_request}

-- "A row request gives the row as a part of the font"; "a refused row is empty". The part is fixed by its place and its width.
abbrev pub part_of : List ℕ → Result RowPlace Refusal → List ℕ
part_of s (Ok at) = take at.width (drop at.place s)
part_of s (Err q) = []

unfoldable pub row_bytes : List ℕ → Code → ℕ → List ℕ
row_bytes s c r = part_of s (row_request s c r)

-- The part itself, and not a place with equal bytes: it lies in the same memory as the font, as far behind its start as the request says.
pub record LiesAt (font : Bor (List ℕ)) (x : Result RowPlace Refusal) (part : Bor (List ℕ)) : Type 0 where
  pub there : (at : RowPlace) → x ≡ Ok at → (part.ref_ptr.0 ≡ font.ref_ptr.0) × (part.ref_ptr.1 ≡ at.place + font.ref_ptr.1)

-- "A call beside the row request tells its number." "A refusal answers its number and place (..); other numbers are 0." Where there is none it tells where the
-- part starts and how wide it is.
pub record RowTold : Type 0 where
  pub refused : Bool
  pub number : ℕ
  pub place : ℕ
  pub start : ℕ
  pub width : ℕ

abbrev pub row_tells : Result RowPlace Refusal → RowTold
row_tells (Ok at) = record { refused = false; number = 0; place = 0; start = at.place; width = at.width }
row_tells (Err q) = record { refused = true; number = number_of q.reason; place = q.place; start = 0; width = 0 }

unfoldable pub row_told : List ℕ → Code → ℕ → RowTold
row_told s c r = row_tells (row_request s c r)
