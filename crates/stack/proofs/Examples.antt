-- Worked examples of stacks, as one statement over one list, about the definitions that the contract of the call cites. Blocks are rows in quotes; the
-- hardblank is `$` and the area exactly as long as the result, unless an example says otherwise.
-- Assumes nothing.
use mathlib.Core.Path.{◌≡◌, refl}
use mathlib.Core.List.{List, [], ◌∷◌, ◌++◌}
use Prim.Native.Nat.{ℕ, ◌+◌}
use Prim.Native.Char.{Char}
use Prim.Native.String.{String}
use lib.ListN.{length, replicate}
use Rattle.ground.specs.Area.{values, zeros}
use Rattle.ground.specs.Count.{every, reach}
use Rattle.ground.specs.Text.{byte, bytes}
use Rattle.ground.specs.declared.refusals.Reason.{Reason}
use Rattle.ground.specs.Refusals.{area_too_small, bad_shape, stack_too_high}
use Rattle.subchars.specs.declared.VerticalSmushing.TheVariants.{Universal, Controlled}
use Rattle.subchars.specs.declared.VerticalLayout.{VerticalLayout}
use Rattle.subchars.specs.declared.VerticalLayout.TheVariants.{FullHeight, Fitting, Smushing}
use Rattle.subchars.specs.Hardblank.{legal_hardblank}
use Rattle.rules.specs.Rules.{joined_if, or_else, is_some, equal_character, underscore, class_of, hierarchy}
use Rattle.lanes.specs.Overlap.{lane_facing, facing, has_blank, fitting, one_more, smushing}
use Rattle.lanes.specs.Joined.{joined_cells}
use Rattle.vertical.specs.VerticalPair.{horizontal_line, two_bars, merge, merges, merged_byte, barred}
use Rattle.blocks.specs.Block.{rows_of}
use Rattle.join.specs.Shape.{good_block}
use Rattle.columns.specs.Stack.{upright, supersmushing, columns_overlap, stack_overlap, stacked_at, stacked}
use Rattle.stack.specs.StackCall.{StackTold, stack_tells, stacking, no_stack, good_stack, fit_told, stack_told, stack_area}

-- ------------------------------------------------------------------ what an example is

-- a block as it is lent
pub record Lent : Type 0 where
  pub height : ℕ
  pub width : ℕ
  pub rows : List ℕ

abbrev Rows : Type 0
Rows = List String

abbrev row_after_row : Rows → List ℕ
row_after_row [] = []
row_after_row (row ∷ rows) = bytes row ++ row_after_row rows

abbrev rows_width : Rows → ℕ
rows_width [] = 0
rows_width (row ∷ rows) = length (bytes row)

abbrev block : Rows → Lent
block rows = record { height = length rows; width = rows_width rows; rows = row_after_row rows }

abbrev one : String → Rows
one row = row ∷ []

-- n rows of one sub-character each; n rows of width 0; a row of so many blanks
abbrev column : ℕ → Char → Lent
column n x = record { height = n; width = 1; rows = replicate n (byte x) }

abbrev empty : ℕ → Lent
empty n = record { height = n; width = 0; rows = [] }

abbrev blanks : ℕ → Lent
blanks w = record { height = 1; width = w; rows = replicate w (byte " ") }

-- what is asked of the call, and what it gives: its answer and the whole area
pub record Asked : Type 0 where
  pub layout : VerticalLayout
  pub hardblank : ℕ
  pub upper : Lent
  pub lower : Lent
  pub room : ℕ

pub record Outcome : Type 0 where
  pub told : StackTold
  pub area : List ℕ

abbrev pub call : Asked → Outcome
call a =
    let u = a.upper in
    let l = a.lower in
    record {
      told = stack_told a.layout a.hardblank u.height u.width u.rows l.height l.width l.rows a.room;
      area = stack_area a.layout a.hardblank u.height u.width u.rows l.height l.width l.rows a.room;
    }

pub record Example : Type 0 where
  pub asked : Asked
  pub outcome : Outcome

-- stacked at an overlap into a block, in an area that has so many bytes more
abbrev stacks_with : Char → VerticalLayout → Lent → Lent → ℕ → Lent → ℕ → Example
stacks_with hardblank layout upper lower o result spare =
    record {
      asked = record { layout = layout; hardblank = byte hardblank; upper = upper; lower = lower; room = length result.rows + spare };
      outcome = record { told = stack_tells (stacking o result.height result.width); area = result.rows ++ zeros spare };
    }

abbrev stacks : VerticalLayout → Rows → Rows → ℕ → Rows → Example
stacks layout upper lower o result = stacks_with "$" layout (block upper) (block lower) o (block result) 0

-- refused for a reason
abbrev refuses_with : Char → Reason → VerticalLayout → Lent → Lent → ℕ → Example
refuses_with hardblank reason layout upper lower room =
    record {
      asked = record { layout = layout; hardblank = byte hardblank; upper = upper; lower = lower; room = room };
      outcome = record { told = no_stack reason; area = zeros room };
    }

abbrev refuses : Reason → VerticalLayout → Lent → Lent → ℕ → Example
refuses = refuses_with "$"

abbrev by : ℕ → VerticalLayout
by set = Smushing (Controlled set)

abbrev universally : VerticalLayout
universally = Smushing Universal

abbrev pub All : List Example → Type 0
All [] = Unit {0}
All (e ∷ es) = (call e.asked ≡ e.outcome) × All es

-- ------------------------------------------------------------------ the examples

abbrev pub examples : List Example
examples =
    -- 256: equal pairs give themselves
    stacks (by 256) (one "a") (one "a") 1 (one "a") ∷
    stacks (by 256) (one "a") (one "b") 0 ("a" ∷ "b" ∷ []) ∷
    -- 512: an underscore yields to any of the eleven
    stacks (by 512) (one "_") (one "|") 1 (one "|") ∷
    stacks (by 512) (one "_") (one "a") 0 ("_" ∷ "a" ∷ []) ∷
    -- 1024: of two classes the later one stands; `<` and `>` are of one class
    stacks (by 1024) (one "|") (one "/") 1 (one "/") ∷
    stacks (by 1024) (one "<") (one ">") 0 ("<" ∷ ">" ∷ []) ∷
    stacks (by 1024) ("|" ∷ " " ∷ []) ("/" ∷ "x" ∷ []) 2 ("/" ∷ "x" ∷ []) ∷
    stacks (by 1024) ("<" ∷ " " ∷ []) (">" ∷ "x" ∷ []) 1 ("<" ∷ ">" ∷ "x" ∷ []) ∷
    -- 2048: a hyphen and an underscore, whichever is above
    stacks (by 2048) (one "-_") (one "_-") 1 (one "==") ∷
    stacks (by 2048) (one "-") (one "-") 0 ("-" ∷ "-" ∷ []) ∷
    -- 4096: two bars
    stacks (by 4096) (one "|") (one "|") 1 (one "|") ∷
    stacks (by 4096) (one "|") (one "/") 0 ("|" ∷ "/" ∷ []) ∷
    -- one column that does not join keeps all apart
    stacks (by 256) (one "ab") (one "ac") 0 ("ab" ∷ "ac" ∷ []) ∷
    -- supersmushing: the largest overlap that together with all smaller ones faces only pairs with a blank or of two bars, if it exceeds the fitting one
    stacks (by 4096) ("|" ∷ "|" ∷ []) ("|" ∷ "|" ∷ []) 2 ("|" ∷ "|" ∷ []) ∷
    stacks (by 256) ("|" ∷ "|" ∷ []) ("|" ∷ "|" ∷ []) 1 ("|" ∷ "|" ∷ "|" ∷ []) ∷
    stacks (by 4352) ("|" ∷ "|" ∷ []) ("|" ∷ "|" ∷ []) 2 ("|" ∷ "|" ∷ []) ∷
    stacks (by 4096) ("|" ∷ "|" ∷ []) ("|" ∷ "a" ∷ []) 1 ("|" ∷ "|" ∷ "a" ∷ []) ∷
    stacks (by 4096) ("|" ∷ "a" ∷ []) ("|" ∷ " " ∷ []) 0 ("|" ∷ "a" ∷ "|" ∷ " " ∷ []) ∷
    stacks (by 4096) ("|a" ∷ "| " ∷ []) ("|b" ∷ "|c" ∷ []) 1 ("|a" ∷ "|b" ∷ "|c" ∷ []) ∷
    -- else the other rules are tried one row further: two bars there need 256
    stacks (by 4608) (one "|_") (one "||") 0 ("|_" ∷ "||" ∷ []) ∷
    stacks (by 4864) (one "|_") (one "||") 1 (one "||") ∷
    stacks (by 4608) (one "a_") (one " |") 1 (one "a|") ∷
    stacks (by 4096) (one "a_") (one " |") 0 ("a_" ∷ " |" ∷ []) ∷
    -- universal: of two visible the lower one stands
    stacks universally (one "a") (one "b") 1 (one "b") ∷
    stacks universally (one "ab ") (one "c d") 1 (one "cbd") ∷
    -- fitting by more rows than one, as far as the smaller height or a pair without a blank; universal takes one row more
    stacks Fitting ("a" ∷ " " ∷ " " ∷ []) ("b" ∷ "c" ∷ []) 2 ("a" ∷ "b" ∷ "c" ∷ []) ∷
    stacks Fitting ("x" ∷ "a" ∷ " " ∷ []) (" " ∷ "b" ∷ "c" ∷ []) 2 ("x" ∷ "a" ∷ "b" ∷ "c" ∷ []) ∷
    stacks universally ("x" ∷ "a" ∷ " " ∷ []) (" " ∷ "b" ∷ "c" ∷ []) 3 ("x" ∷ "b" ∷ "c" ∷ []) ∷
    -- full height overlaps nothing
    stacks FullHeight ("a" ∷ " " ∷ []) (" " ∷ "b" ∷ []) 0 ("a" ∷ " " ∷ " " ∷ "b" ∷ []) ∷
    -- the narrower block is filled with blanks on the right
    stacks FullHeight (one "abc") (one "d") 0 ("abc" ∷ "d  " ∷ []) ∷
    stacks FullHeight (one "a") (one "bcd") 0 ("a  " ∷ "bcd" ∷ []) ∷
    stacks Fitting (one " bc") (one "d") 1 (one "dbc") ∷
    stacks universally (one "a") (one " bc") 1 (one "abc") ∷
    -- hardblanks are first made blanks; `$` is none where `#` is the hardblank
    stacks FullHeight (one "a$") (one "$b") 0 ("a " ∷ " b" ∷ []) ∷
    stacks Fitting (one "a$") (one "$b") 1 (one "ab") ∷
    stacks_with "#" Fitting (block (one "a$")) (block (one "#$")) 0 (block ("a$" ∷ " $" ∷ [])) 0 ∷
    -- a joint that is the hardblank's byte comes out as it is
    stacks_with "=" (by 2048) (block (one "-=")) (block (one "_=")) 1 (block (one "= ")) 0 ∷
    -- width 0 is legal, of both and of one
    stacks Fitting ("" ∷ "" ∷ "" ∷ []) ("" ∷ "" ∷ []) 2 ("" ∷ "" ∷ "" ∷ []) ∷
    stacks FullHeight ("" ∷ "" ∷ []) (one "") 0 ("" ∷ "" ∷ "" ∷ []) ∷
    stacks (by 256) ("" ∷ "" ∷ []) (one "ab") 1 ("  " ∷ "ab" ∷ []) ∷
    stacks (by 256) (one "ab") (one "") 1 (one "ab") ∷
    -- zeros behind the result; 9, exactly one byte short
    stacks_with "$" Fitting (block (one "ab")) (block (one "cd")) 0 (block ("ab" ∷ "cd" ∷ [])) 3 ∷
    refuses area_too_small Fitting (block (one "ab")) (block (one "cd")) 3 ∷
    refuses area_too_small (by 256) (block (one "a")) (block (one "a")) 0 ∷
    -- 64 rows are the most: of the upper block (17), of the result (18, before 9)
    stacks_with "$" (by 256) (column 64 "a") (column 1 "a") 1 (column 64 "a") 0 ∷
    stacks_with "$" Fitting (empty 64) (empty 32) 32 (empty 64) 0 ∷
    stacks_with "$" FullHeight (empty 32) (empty 32) 0 (empty 64) 0 ∷
    refuses stack_too_high FullHeight (empty 33) (empty 32) 2 ∷
    refuses stack_too_high FullHeight (column 40 "a") (column 30 "b") 70 ∷
    refuses stack_too_high FullHeight (column 40 "a") (column 30 "b") 1 ∷
    refuses stack_too_high FullHeight (column 64 "a") (column 1 "a") 64 ∷
    refuses bad_shape Fitting (column 65 " ") (column 1 "a") 65 ∷
    refuses bad_shape FullHeight (column 65 "a") (column 1 "a") 0 ∷
    -- 17, otherwise: no rows, a lower block of 33
    refuses bad_shape Fitting (empty 0) (empty 1) 1 ∷
    refuses bad_shape Fitting (empty 1) (empty 0) 1 ∷
    refuses bad_shape Fitting (empty 64) (empty 33) 1 ∷
    -- a width over 1,000
    stacks_with "$" Fitting (blanks 1000) (empty 1) 1 (blanks 1000) 0 ∷
    refuses bad_shape Fitting (blanks 1001) (empty 1) 1 ∷
    refuses bad_shape Fitting (empty 1) (blanks 1001) 1 ∷
    -- a hardblank that 3 refuses
    refuses_with " " bad_shape Fitting (block (one "a")) (block (one "b")) 2 ∷
    refuses_with "\r" bad_shape Fitting (block (one "a")) (block (one "b")) 2 ∷
    refuses_with "\n" bad_shape Fitting (block (one "a")) (block (one "b")) 2 ∷
    refuses_with "\0" bad_shape Fitting (block (one "a")) (block (one "b")) 2 ∷
    -- no sum of one to five of the rules
    stacks (by 7936) (one "|") (one "_") 1 (one "|") ∷
    refuses bad_shape (by 0) (block (one "a")) (block (one "b")) 2 ∷
    refuses bad_shape (by 257) (block (one "a")) (block (one "b")) 2 ∷
    refuses bad_shape (by 8192) (block (one "a")) (block (one "b")) 2 ∷
    -- a block not exactly height times width long
    refuses bad_shape Fitting (record { height = 1; width = 2; rows = bytes "a" }) (block (one "b")) 4 ∷
    refuses bad_shape Fitting (block (one "a")) (record { height = 2; width = 1; rows = bytes "bcd" }) 4 ∷ []

-- all of them hold
pub examples_hold : All examples
unfolding values every reach legal_hardblank joined_if or_else is_some equal_character underscore class_of hierarchy horizontal_line two_bars merge merges merged_byte barred lane_facing facing has_blank fitting one_more smushing joined_cells rows_of good_block upright supersmushing columns_overlap stack_overlap stacked_at stacked good_stack fit_told stack_told stack_area
examples_hold = (refl, (refl, (refl, (refl, (refl, (refl, (refl, (refl, (refl, (refl, (refl, (refl, (refl, (refl, (refl, (refl, (refl, (refl, (refl, (refl, (refl, (refl, (refl, (refl, (refl, (refl, (refl, (refl, (refl, (refl, (refl, (refl, (refl, (refl, (refl, (refl, (refl, (refl, (refl, (refl, (refl, (refl, (refl, (refl, (refl, (refl, (refl, (refl, (refl, (refl, (refl, (refl, (refl, (refl, (refl, (refl, (refl, (refl, (refl, (refl, (refl, (refl, (refl, (refl, (refl, (refl, (refl, (refl, (refl, tt)))))))))))))))))))))))))))))))))))))))))))))))))))))))))))))))))))))
