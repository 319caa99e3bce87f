-- The promises: every sentence of the three demands, every row of the refusal table and the sentences of the requests that have landed, in the papers' order,
-- each as a theorem about the definitions that the contracts of the public calls cite. A statement stands here in full, but for a few data types of the crates below that it names:
-- how far the lines of a file are good (`Comes`, `Reaches`), how characters stand (`InOrder`, `EachTagged`), how the lines of a text stand (`InOrder`, `Apart`, `pieces`), `Last`, `NoneFits`, `Fails`, what the files of a check say (`CheckRead`), and how two lists first part (`FirstWrong`, `PartsFirst`). Its proof is one
-- line that cites the law, so that what lies behind need not be opened.
-- Assumes nothing.
use mathlib.Core.Path.{◌≡◌, refl, ap}
use mathlib.Core.Bool.{Bool, true, false, cond, ◌&&◌}
use mathlib.Core.List.{List, [], ◌∷◌, ◌++◌, map}
use mathlib.Core.Logic.Iff
use mathlib.Core.Logic.{◌⊎◌, inl, inr, ◌↔◌}
use Rattle.std.specs.Prelude.{Option, Some, None, Result, Ok, Err}
use Prim.Native.Nat.{ℕ, suc, ◌+◌, ◌-◌, ◌*◌, ◌≤◌, ◌<◌, min, max}
use lib.IntN.{ℤ, pos, nat_abs, ◌-ℤ◌}
use lib.Signed.{le_z}
use lib.Dec.{eqb, ltb, leb}
use lib.ListN.{length, get_or, take, drop, replicate}
use borrow.Author.Tests.{eq-eqb, ne_eqb}
use Rattle.ground.specs.Area.{zeros, padded}
use Rattle.ground.specs.Text.{byte, bytes, among}
use Rattle.ground.specs.Limits.{max_font_length, max_control_file, max_text, max_line_width, max_height, max_stack_height, max_characters, max_commands, min_lines, min_scratch, min_stacked_scratch, max_character_width, max_rules, max_stages, max_pack_length, min_pack_length}
use Rattle.ground.specs.Refusals.{refusal, number_of, font_too_long, no_signature, bad_hardblank, bad_parameters, too_many_characters, area_too_small, control_file_too_long, not_a_command, bad_ranges, extended_command, too_many_commands, text_too_long, line_too_wide, bad_shape, stack_too_high, character_too_wide, missing_line, bad_row, bad_code_tag, damaged_pack, code_present, code_absent, no_room, fonts_differ, wrong_length}
use Rattle.ground.specs.Runs.{run, all, begins, joined}
use Rattle.ground.specs.declared.refusals.Refusal.{Refusal}
use Rattle.ground.proofs.Tests.{clash}
use Rattle.subchars.specs.declared.Code.{Code}
use Rattle.subchars.specs.declared.SubCharacter.{SubCharacter}
use Rattle.subchars.specs.declared.Direction.{Direction}
use Rattle.subchars.specs.declared.Layout.{Layout}
use Rattle.subchars.specs.declared.Layout.TheVariants.{FullWidth, Fitting, Smushing}
use Rattle.subchars.specs.declared.Smushing.{Smushing as Kind}
use Rattle.subchars.specs.declared.Smushing.TheVariants.{Controlled, Universal}
use Rattle.subchars.specs.declared.VerticalLayout.{VerticalLayout}
use Rattle.subchars.specs.declared.VerticalLayout.TheVariants as vertical
use Rattle.subchars.specs.declared.VerticalSmushing.TheVariants as vertically
use Rattle.subchars.specs.declared.Mode.{Mode}
use Rattle.subchars.specs.Layouts.{has, vertical_values, full_vertical}
use Rattle.subchars.specs.Hardblank.{blank, blanked, legal_hardblank}
use Rattle.rules.specs.declared.Rule.{Rule}
use Rattle.rules.specs.Rules.{by_rule}
use Rattle.rules.proofs.Rules as rules
use Rattle.kinds.specs.Kinds.{kind_of, rule_entry, rules_joining}
use Rattle.kinds.proofs.PairRules as pair-table
use Rattle.pairs.specs.declared.Joint.TheVariants.{ByRule}
use Rattle.pairs.specs.Pair.{joins, in_set, controlled, EveryRuleOf}
use Rattle.pairs.proofs.Sets as sets
use Rattle.pairs.proofs.Joints as joints
use Rattle.vertical.specs.VerticalPair.{VerticalRule, EqualCharacter, VerticalLine, rule_value, set_has, two_bars, rule_merges, merges, merged_byte, barred, other_rules, EveryVerticalRuleOf}
use Rattle.vertical.proofs.VerticalRules as vertical-rules
use Rattle.vertical.proofs.GoodSets as vertical-sets
use Rattle.lanes.specs.Blocks.{Cells}
use Rattle.lanes.specs.Overlap.{has_blank, free, facing, furthest}
use Rattle.lanes.proofs.Smushing as lanes
use Rattle.lanes.proofs.Smushing.{Fails}
use Rattle.blocks.specs.Block.{Block, exact_block, left_of, right_of}
use Rattle.overlap.specs.Join.{overlap, pair_byte, besides}
use Rattle.join.specs.declared.Joined.{Joined}
use Rattle.join.specs.JoinCall.{joining, join_tells, join_told, join_area}
use Rattle.overlap.proofs.Demand as demand
use Rattle.join.proofs.Answers as join-answers
use Rattle.join.proofs.Bytes.{joined-byte}
use Rattle.stack.specs.declared.Stacked.{Stacked}
use Rattle.columns.specs.Stack.{upright, stack_overlap, Stack, stacked}
use Rattle.stack.specs.StackCall.{stacking, stack_tells, no_stack, stack_of, stack_told, stack_area}
use Rattle.columns.proofs.Demand as stacking
use Rattle.columns.proofs.Columns as columns
use Rattle.columns.proofs.Filling as filling
use Rattle.stack.proofs.Answers as stack-answers
use Rattle.stack.proofs.Answers.{BadStack}
use Rattle.stack.proofs.Bytes.{stacked-byte}
use Rattle.drawing.specs.declared.DrawAnswer.{DrawAnswer}
use Rattle.figure.specs.Line.{attached, empty, overlap_with, line_from}
use Rattle.showing.specs.Output.{shown}
use Rattle.drawing.specs.declared.DrawAnswer.TheVariants as draw-is
use Rattle.figure.proofs.Folding.{first-whole}
use Rattle.blocks.specs.Writing.{Like}
use Rattle.lines.specs.Lines.{TextLine, lines_from, text_at}
use Rattle.lines.specs.Words.{is_blank, first_word, after_blanks}
use Rattle.lines.specs.Numbers.{code_number}
use Rattle.header.specs.declared.Header.{Header}
use Rattle.header.specs.declared.Parameters.{Parameters}
use Rattle.header.specs.Header.{font_signature, parameter_numbers, parameters, legal_parameters}
use Rattle.chars.specs.declared.Entry.{Entry}
use Rattle.chars.specs.Codes.{code, required_codes, required_count, no_code, tag_of}
use Rattle.chars.specs.Chars.{blank_lines}
use Rattle.rows.specs.declared.Format.{Format}
use Rattle.rows.specs.Rows.{trimmed, unmarked, row, legal_byte, row_of, character_rows}
use Rattle.rows.proofs.TrailingBlanks as row-lines
use Rattle.chars.proofs.OrderLaws.{InOrder, EachTagged}
use Rattle.index.specs.LookUp.{last_at, or_stand_in, look_up}
use Rattle.index.proofs.FindLaws as looking
use Rattle.index.proofs.FindLaws.{Last}
use Rattle.font.specs.Font.{says, refuses, format, reading}
use Rattle.font.proofs.ReadingLaws as fonts
use Rattle.font.proofs.Comes.{Comes, comments, character, first-row, more_rows}
use Rattle.font.proofs.TableLaws as font-rows
use Rattle.entries.specs.Filling.{font_reading, zero_entry, index_of}
use Rattle.entries.proofs.RefusalLaws as index
use Rattle.finding.specs.Finding.{entry_tells, found_told}
use Rattle.finding.proofs.ToldApart as finding
use Rattle.reader.specs.declared.LookedUp.{LookedUp}
use Rattle.reader.specs.declared.LookedUp.TheVariants as three
use Rattle.reader.specs.Reader.{used, looked_up, last_of}
use Rattle.reader.proofs.ThreeLaws as three-cases
use Rattle.reader.proofs.ThreeLaws.{Has}
use Rattle.source.specs.declared.Counts.{Counts}
use Rattle.source.specs.Counting.{no_counts, counted, counts_of}
use Rattle.source.proofs.CountLaws as counting
use Rattle.commands.specs.declared.fields.Form.{Form}
use Rattle.commands.specs.declared.fields.Form.TheVariants.{Characters, Numbers}
use Rattle.commands.specs.declared.fields.Codes.{Codes}
use Rattle.commands.specs.declared.fields.Codes.TheVariants.{One, Range}
use Rattle.commands.specs.Fields.{field, ends_field, good_ranges}
use Rattle.flc.specs.declared.Command.{Command}
use Rattle.flc.specs.Control as flc
use Rattle.flc.specs.Lists.{CommandLists, command_lists, lists_of}
use Rattle.mapping.specs.Mapping.{fits, new_code, through_stage}
use Rattle.controlcalls.specs.ControlCall.{room_of, control_reading}
use Rattle.controlcalls.proofs.LentLaws as lent-lists
use Rattle.flc.proofs.RefusalLaws as controls
use Rattle.flc.proofs.TableLaws as control-rows
use Rattle.flc.proofs.TableLaws.{Reaches}
use Rattle.mapping.proofs.MappingLaws as mapping
use Rattle.mapping.proofs.MappingLaws.{NoneFits}
use Rattle.source.specs.Source.{Source, font_source, pack_source, two_source}
use Rattle.drawing.specs.Drawing.{characters_of, byte_choice, font_line, font_counts, line_of, text_codes, trace_of, direction_of, Lined, draw_lined, lined_answer, bytes_of, mode_of}
use Rattle.drawing.specs.Steps.{with_character}
use Rattle.drawing.proofs.Answers as drawing
use Rattle.drawing.proofs.DrawingLaws as drawings
use Rattle.twolines.specs.TwoLines.{vertical_of, font_vertical, TwoLines, both_counts, draw_lines, lines_told, lines_counts, lines_output}
use Rattle.twolines.proofs.Answers as line-answers
use Rattle.twolines.proofs.TableLaws as line-rows
use Rattle.twolines.proofs.Bytes as line-bytes
use Rattle.wrapping.specs.declared.WrapAnswer.{WrapAnswer}
use Rattle.wrapping.specs.declared.WrapAnswer.TheVariants as wrap-is
use Rattle.breaks.specs.Words.{is_break, in_word, word_from, word_behind, ends_word}
use Rattle.breaks.specs.Breaking.{Span, span, span_end, spans_from, spans_of}
use Rattle.spans.specs.Spans.{wide_in, drawings, choice_width, first_wider}
use Rattle.wrapping.specs.Wrapping.{Wrap, draw_wrapped, wrap_in, wrap_answer, wrap_firsts, wrap_ends, wrap_output}
use Rattle.breaks.specs.Steps.{last_behind}
use Rattle.wrapping.proofs.Answers as wrap-answers
use Rattle.breaks.proofs.BreakingLaws as breaks
use Rattle.wrapping.proofs.TableLaws as wrap-rows
use Rattle.wrapping.proofs.TextLines as text-lines
use Rattle.fontcalls.specs.RowCall.{row_tells, row_told, row_bytes}
use Rattle.fontcalls.specs.LookUpCall.{look_up_tells, look_up_told}
use Rattle.controlcalls.specs.MapCall.{map_tells, map_told}
use Rattle.wattleslate.specs.DrawCall.{draw_tells, draw_told, draw_output}
use Rattle.fontcalls.proofs.LookUpLaws as look-ups
use Rattle.controlcalls.proofs.MapCases as mappings
use Rattle.wattleslate.proofs.DrawLaws as draw-calls
use Rattle.fontcalls.proofs.RowLaws as row-calls
use Rattle.wattleslate.proofs.Wiping as wiping
use Rattle.font.specs.Font as font
use Rattle.records.specs.declared.Head.{Head}
use Rattle.records.specs.Versions.{head_length, record_head_length, max_width}
use Rattle.records.specs.Records.{is_zero, live as liveByte, free_status as freeByte, minus_one, code_in, width_in, rows_in, size_in, record_list, none_twice, has_live, live_count}
use Rattle.records.specs.Places.{place_in}
use Rattle.records.specs.Letters.{letter, no_letter}
use Rattle.edits.specs.Changes as edits
use Rattle.heads.specs.Pack as heads
use Rattle.pack.specs.declared.Found.{Found}
use Rattle.pack.specs.Calls as calls
use Rattle.pack.proofs.Outcomes as outcomes
use Rattle.pack.proofs.Theorems as pack-laws
use Rattle.pack.proofs.DamageLaws as damage
use Rattle.pack.proofs.TableLaws as pack-rows
use Rattle.packdrawing.specs.PackDrawing.{pack_mode, pack_lined, MadeOf}
use Rattle.packdrawing.proofs.Answers as pack-drawing
use Rattle.packdrawing.proofs.FontAndPack as font-pack
use Rattle.fontlists.specs.declared.two.Which.{Which}
use Rattle.fontlists.specs.declared.two.Which.TheVariants as which-is
use Rattle.fontlists.specs.declared.two.LookedUpInTwo.TheVariants as in_two
use Rattle.fontlists.specs.TwoFonts.{looked_up_in_two, bytes_in}
use Rattle.request.specs.Request.{row_request}
use Rattle.twofonts.specs.declared.RequestedOfTwo.TheVariants as two-row-is
use Rattle.twofonts.specs.Fonts.{alike}
use Rattle.twofonts.specs.RowOfTwo.{row_of_two}
use Rattle.twofonts.specs.TwoDrawing.{two_lined}
use Rattle.twofonts.proofs.RowLaws as two-rows
use Rattle.twofonts.proofs.RowLaws.{BothSay, GivenOfTwo, NoRow}
use Rattle.twofonts.proofs.RowAnswers as two-requests
use Rattle.twofonts.proofs.Answers as two-drawing
use Rattle.twofonts.proofs.TwoFontsLaws as two-fonts
use Rattle.twofonts.proofs.TwoFontsLaws.{EachHas, in_first}
use Rattle.checking.specs.declared.Verdict.{Verdict}
use Rattle.checking.specs.declared.Verdict.TheVariants as check-is
use Rattle.checking.specs.Verdict.{after_first}
use Rattle.checking.proofs.DifferenceLaws.{PartsFirst}
use Rattle.checking.proofs.VerdictLaws.{FirstWrong}
use Rattle.drawingcheck.specs.CheckDrawing.{drawing_checked}
use Rattle.drawingcheck.proofs.Answers as check-answers
use Rattle.drawingcheck.proofs.Answers.{CheckRead}

-- ================================================================ demand 1

-- "After a refusal every buffer lent for writing is filled with zeros": the index of read_font,
index_wiped : (room : ℕ) (s : List ℕ) (r : Refusal) → font_reading room s ≡ refuses r → index_of (font_reading room s) room ≡ replicate room zero_entry
index_wiped = wiping.index_wiped

-- the lists of read_control,
lists_wiped : (lent : CommandLists) (s : List ℕ) (r : Refusal) → control_reading lent s ≡ flc.refuses r →
    lists_of (control_reading lent s) lent ≡ command_lists (zeros (length lent.stages)) (replicate (length lent.firsts) (pos 0)) (replicate (length lent.lasts) (pos 0)) (replicate (length lent.news) (pos 0))
lists_wiped = wiping.lists_wiped

-- the area of join,
join_wiped : (y : Mode) (h n : ℕ) (line : List ℕ) (m : ℕ) (character : List ℕ) (room : ℕ) → (join_told y h n line m character room).refused ≡ true → join_area y h n line m character room ≡ zeros room
join_wiped = wiping.join_wiped

-- and the output of draw, whose scratch is zeros after every answer by its contract.
draw_wiped : (size : ℕ) (s control text : List ℕ) (room : ℕ) → (draw_told size s control text room).refused ≡ true → draw_output size s control text room ≡ zeros room
draw_wiped = wiping.draw_wiped

-- ================================================================ demand 2: the refusal table

-- 1 to 8, of a font s.
module _ (s : List ℕ) where
  -- The first line, without its end; it is empty where the font is.
  abbrev first_line : List ℕ
  first_line = text_at s 0

  abbrev behind_flf2a : List ℕ
  behind_flf2a = drop (length font_signature) first_line

  -- 1, "font too long", at 0.
  refusal_1 : (p : ℕ) → reading s ≡ refuses (refusal font_too_long p) ↔ ((p ≡ 0) × (max_font_length < length s))
  refusal_1 = font-rows.row_1 s

  -- 2, "first line does not begin with flf2a", at 0.
  refusal_2 : (p : ℕ) → reading s ≡ refuses (refusal no_signature p) ↔ ((p ≡ 0) × (length s ≤ max_font_length) × (begins font_signature first_line ≡ false))
  refusal_2 = font-rows.row_2 s

  -- 3, "hardblank absent, or blank, CR, LF, NUL", at 0.
  refusal_3 : (p : ℕ) →
      reading s ≡ refuses (refusal bad_hardblank p) ↔
      ((p ≡ 0) × (length s ≤ max_font_length) × (begins font_signature first_line ≡ true) ×
      ((behind_flf2a ≡ []) ⊎
      ((h : ℕ) × (rest : List ℕ) × (behind_flf2a ≡ h ∷ rest) × (legal_hardblank h ≡ false))))
  refusal_3 = font-rows.row_3 s

  -- 4, "no blank or tab after the hardblank, under five numbers, or a value out of range", at 0.
  refusal_4 : (p : ℕ) →
      reading s ≡ refuses (refusal bad_parameters p) ↔
      ((p ≡ 0) × (length s ≤ max_font_length) × (begins font_signature first_line ≡ true) ×
      (h : ℕ) × (rest : List ℕ) × (behind_flf2a ≡ h ∷ rest) × (legal_hardblank h ≡ true) ×
      ((rest ≡ []) ⊎
      ((x : ℕ) × (more : List ℕ) × (rest ≡ x ∷ more) ×
      ((is_blank x ≡ false) ⊎
      (length (parameter_numbers more) < 5) ⊎
      ((v : Parameters) × (parameters (parameter_numbers more) ≡ Some v) × (legal_parameters v ≡ false))))))
  refusal_4 = font-rows.row_4 s

  -- "Then 5 to 8 as met line by line": `Comes s h due ls` says how far the lines of the font, whose header is h, are good: what is due next, and the lines ls that
  -- remain (crates/font/proofs/Comes.antt). Due are k comment lines (`comments k`), a character before which n stand (`character n`), its first row (`first-row n`),
  -- or k more rows of it, of width w (`more_rows n k w`).

  -- 5, "font ends before a needed line", at the "font length": no line remains where a comment line, a first row or another row is due.
  refusal_5 : (p : ℕ) →
      reading s ≡ refuses (refusal missing_line p) ↔
      ((p ≡ length s) × (h : Header) ×
      (((k : ℕ) × Comes s h (comments (suc k)) []) ⊎
      ((n : ℕ) × Comes s h (first-row n) []) ⊎
      ((n k w : ℕ) × Comes s h (more_rows n (suc k) w) [])))
  refusal_5 = font-rows.row_5 s

  -- 6, "bad row", at the "start of that line": "the line is empty, is longer than Max_Length with its marks, its row differs in width from the character's first row, or
  -- its row holds a byte under 32 that is not the hardblank". A first row has no other to differ from. By document 02, Q-3, "blanks and tabs at a row line's end are dropped
  -- first", so empty and too long are said of what is left of the line (`trimmed`).
  refusal_6 : (p : ℕ) →
      reading s ≡ refuses (refusal bad_row p) ↔
      ((h : Header) × (l : TextLine) × (ls : List TextLine) × (p ≡ l.start) ×
      (((n : ℕ) × Comes s h (first-row n) (l ∷ ls) ×
      ((length (trimmed l.text) ≡ 0) ⊎
      (h.max_length < length (trimmed l.text)) ⊎
      (all (legal_byte h.hardblank.0) (row l.text) ≡ false))) ⊎
      ((n k w : ℕ) × Comes s h (more_rows n (suc k) w) (l ∷ ls) ×
      ((length (trimmed l.text) ≡ 0) ⊎
      (h.max_length < length (trimmed l.text)) ⊎
      (length (row l.text) ≡ w → ⊥) ⊎
      (all (legal_byte h.hardblank.0) (row l.text) ≡ false)))))
  refusal_6 = font-rows.row_6 s

  -- 7, "bad code tag", at the "start of that line": behind the required characters, where more remains than "blanks, tabs and line ends", the first word is no number within
  -- signed 32 bits, or it is -1.
  refusal_7 : (p : ℕ) →
      reading s ≡ refuses (refusal bad_code_tag p) ↔
      ((h : Header) × (n : ℕ) × (l : TextLine) × (ls : List TextLine) × (p ≡ l.start) ×
      Comes s h (character n) (l ∷ ls) × (required_count ≤ n) × (blank_lines (l ∷ ls) ≡ false) ×
      ((code_number (first_word l.text) ≡ None) ⊎
      (code_number (first_word l.text) ≡ Some no_code)))
  refusal_7 = font-rows.row_7 s

  -- 8, "a 513th character", at the "start of its tag line"; "on one tag line 7 before 8": the tag is a code.
  refusal_8 : (p : ℕ) →
      reading s ≡ refuses (refusal too_many_characters p) ↔
      ((h : Header) × (n : ℕ) × (l : TextLine) × (ls : List TextLine) × (p ≡ l.start) ×
      Comes s h (character n) (l ∷ ls) × (max_characters ≤ n) × (blank_lines (l ∷ ls) ≡ false) ×
      (c : Code) × (tag_of l.text ≡ Some c))
  refusal_8 = font-rows.row_8 s

  -- A font has no refusal but 1 to 8, and none names a place beyond its end.
  font_refusals : (r : Refusal) → reading s ≡ refuses r → (number_of font_too_long ≤ number_of r.reason) × (number_of r.reason ≤ number_of too_many_characters) × (r.place ≤ length s) × (r.place ≤ max_font_length)
  font_refusals = fonts.font_refusal s

  -- 9, "a lent area is too small", at 0. "Reading a font: 9 (index under 512 entries), 1, 2, ..".
  refusal_9_of_read_font : (room p : ℕ) → font_reading room s ≡ refuses (refusal area_too_small p) ↔ ((p ≡ 0) × (room < max_characters))
  refusal_9_of_read_font room = index.refused_9 s room

  font_refusals_of_read_font : (room : ℕ) (r : Refusal) → number_of r.reason ≤ number_of too_many_characters → font_reading room s ≡ refuses r ↔ ((max_characters ≤ room) × (reading s ≡ refuses r))
  font_refusals_of_read_font room = index.refused_font s room

-- The forms of a line t of a control file. "Lines beginning #, empty lines and lines of only blanks and tabs are comments."
abbrev IsComment : List ℕ → Type 0
IsComment t = (all is_blank t ≡ true) ⊎ ((xs : List ℕ) × (t ≡ byte "#" ∷ xs))

-- "A line whose first byte is h, j, b, u or g."
abbrev IsExtended : List ℕ → Type 0
IsExtended t = (x : ℕ) × (xs : List ℕ) × (t ≡ x ∷ xs) × (among (bytes "hjbug") x ≡ true)

-- "`f`, rest ignored."
abbrev IsStage : List ℕ → Type 0
IsStage t = (xs : List ℕ) × (t ≡ byte "f" ∷ xs)

-- "At least one blank or tab stands .. between the two fields; after the second only the line end, a blank or a tab may follow": fields of n and m bytes.
abbrev TwoFields : Form → List ℕ → Codes → Codes → Type 0
TwoFields form t one two =
    (n m : ℕ) × (field form t ≡ Some (record { codes = one; length = n })) × (0 < run is_blank (drop n t)) ×
    (field form (after_blanks (drop n t)) ≡ Some (record { codes = two; length = m })) × (ends_field (drop m (after_blanks (drop n t))) ≡ true)

-- "At least one blank or tab stands after `t`."
abbrev Translates : List ℕ → Codes → Codes → Type 0
Translates t one two = (xs : List ℕ) × (t ≡ byte "t" ∷ xs) × (0 < run is_blank xs) × (TwoFields Characters (after_blanks xs) one two)

-- "`t` with two single characters, or with two ranges; two numbers."
abbrev IsMapping : List ℕ → Code → Code → Code → Type 0
IsMapping t first last firstNew =
    ((last ≡ first) × (Translates t (One first) (One firstNew))) ⊎
    ((lastNew : Code) × (Translates t (Range first last) (Range firstNew lastNew)) × (good_ranges first last firstNew lastNew ≡ true)) ⊎
    ((last ≡ first) × (TwoFields Numbers t (One first) (One firstNew)))

-- Two ranges, and "range sizes differ, or first above last".
abbrev IsBadRanges : List ℕ → Type 0
IsBadRanges t =
    (first last firstNew lastNew : Code) × (Translates t (Range first last) (Range firstNew lastNew)) ×
    ((le_z first.0 last.0 ≡ false) ⊎
    (le_z firstNew.0 lastNew.0 ≡ false) ⊎
    (nat_abs (last.0 -ℤ first.0) ≡ nat_abs (lastNew.0 -ℤ firstNew.0) → ⊥))

-- 10 to 14, of a control file s.
module _ (s : List ℕ) where
  -- 9: "Reading a control file: 9 (room for under 256 commands), 10, then 11 to 14 as met".
  refusal_9_of_read_control : (lent : CommandLists) (p : ℕ) → control_reading lent s ≡ flc.refuses (refusal area_too_small p) ↔ ((p ≡ 0) × (room_of lent < max_commands))
  refusal_9_of_read_control lent = lent-lists.refused_9 lent s

  control_refusals_of_read_control : (lent : CommandLists) (r : Refusal) → number_of control_file_too_long ≤ number_of r.reason → control_reading lent s ≡ flc.refuses r ↔ ((max_commands ≤ room_of lent) × (flc.control s ≡ flc.refuses r))
  control_refusals_of_read_control lent = lent-lists.refused_file lent s

  -- 10, "control file too long", at 0.
  refusal_10 : (p : ℕ) → flc.control s ≡ flc.refuses (refusal control_file_too_long p) ↔ ((p ≡ 0) × (max_control_file < length s))
  refusal_10 = control-rows.row_10 s

  -- "Then 11 to 14 as met": `Reaches s stage n ls` says that the lines before ls are good, and which stage and how many commands they come to (crates/flc/proofs/TableLaws.antt).

  -- 11, "not a command", at the "start of that line": a line of none of these forms.
  refusal_11 : (p : ℕ) →
      flc.control s ≡ flc.refuses (refusal not_a_command p) ↔
      ((stage n : ℕ) × (l : TextLine) × (ls : List TextLine) × (p ≡ l.start) × Reaches s stage n (l ∷ ls) ×
      (IsComment l.text → ⊥) × (IsExtended l.text → ⊥) × (IsStage l.text → ⊥) × ((a b c : Code) → IsMapping l.text a b c → ⊥) × (IsBadRanges l.text → ⊥))
  refusal_11 = control-rows.row_11 s

  -- 12, "range sizes differ, or first above last", at the "start of that line".
  refusal_12 : (p : ℕ) →
      flc.control s ≡ flc.refuses (refusal bad_ranges p) ↔
      ((stage n : ℕ) × (l : TextLine) × (ls : List TextLine) × (p ≡ l.start) × Reaches s stage n (l ∷ ls) × (IsBadRanges l.text))
  refusal_12 = control-rows.row_12 s

  -- 13, "a line whose first byte is h, j, b, u or g (never 11)", at the "start of that line".
  refusal_13 : (p : ℕ) →
      flc.control s ≡ flc.refuses (refusal extended_command p) ↔
      ((stage n : ℕ) × (l : TextLine) × (ls : List TextLine) × (p ≡ l.start) × Reaches s stage n (l ∷ ls) × (IsExtended l.text))
  refusal_13 = control-rows.row_13 s

  -- 14, "a 257th command or 65th stage", at the "start of that line".
  refusal_14 : (p : ℕ) →
      flc.control s ≡ flc.refuses (refusal too_many_commands p) ↔
      ((stage n : ℕ) × (l : TextLine) × (ls : List TextLine) × (p ≡ l.start) × Reaches s stage n (l ∷ ls) ×
      (((a b c : Code) × (IsMapping l.text a b c) × (max_commands ≤ n)) ⊎
      ((IsStage l.text) × (max_stages ≤ stage + 1))))
  refusal_14 = control-rows.row_14 s

  -- A control file has no refusal but 10 to 14, and none names a place beyond its end.
  control_refusals : (r : Refusal) → flc.control s ≡ flc.refuses r → (number_of control_file_too_long ≤ number_of r.reason) × (number_of r.reason ≤ number_of too_many_commands) × (r.place ≤ length s) × (r.place ≤ max_control_file)
  control_refusals = controls.control-refusal s

-- "Look-up .. and mapping a code: those of their file."
refusals_of_look_up : (s : List ℕ) (c : Code) (r : Refusal) → look_up_told s c ≡ look_up_tells (Err r) ↔ reading s ≡ refuses r
refusals_of_look_up = look-ups.look_up_refused

refusals_of_map_code : (s : List ℕ) (c : Code) (r : Refusal) → map_told s c ≡ map_tells (Err r) ↔ flc.control s ≡ flc.refuses r
refusals_of_map_code = mappings.map-refused

-- "Drawing: 9 for all working areas (scratch under 32,000 bytes included), the font's, the control file's, 15, 16, then 9 for the output."
module _ (size : ℕ) (s control text : List ℕ) (room : ℕ) where
  -- The scratch is large enough, and the files say this.
  abbrev FilesSay : Header → List Entry → List Command → ℕ → Type 0
  FilesSay h es cs k = (min_scratch ≤ size) × (reading s ≡ says h es) × (flc.control control ≡ flc.reads cs k)

  -- The line of the text by what they say.
  abbrev line_for : Header → List Entry → List Command → ℕ → Block
  line_for h es cs k = font_line s h es cs k text

  abbrev Draws : DrawAnswer → Type 0
  Draws a = draw_told size s control text room ≡ draw_tells a

  font_refusals_of_draw : (r : Refusal) → number_of r.reason ≤ number_of too_many_characters → Draws (draw-is.Refused r) ↔ ((min_scratch ≤ size) × (reading s ≡ refuses r))
  font_refusals_of_draw r u = Iff.trans (draw-calls.told_is size s control text room _) (drawing.row_font size s control text room r u)

  control_refusals_of_draw : (r : Refusal) → number_of control_file_too_long ≤ number_of r.reason → number_of r.reason ≤ number_of too_many_commands →
      Draws (draw-is.Refused r) ↔ ((min_scratch ≤ size) × (h : Header) × (es : List Entry) × (reading s ≡ says h es) × (flc.control control ≡ flc.refuses r))
  control_refusals_of_draw r u v = Iff.trans (draw-calls.told_is size s control text room _) (drawing.row-control size s control text room r u v)

  -- 9: the scratch, or else, behind all others, the output, Height rows of the width and an LF each.
  refusal_9_of_draw : (p : ℕ) →
      Draws (draw-is.Refused (refusal area_too_small p)) ↔
      ((p ≡ 0) ×
      ((size < min_scratch) ⊎
      ((h : Header) × (es : List Entry) × (cs : List Command) × (k : ℕ) × (FilesSay h es cs k) ×
      (length text ≤ max_text) × ((line_for h es cs k).width ≤ max_line_width) × (room < h.height * ((line_for h es cs k).width + 1)))))
  refusal_9_of_draw p = Iff.trans (draw-calls.told_is size s control text room _) (drawing.row_9 size s control text room p)

  -- 15, "text too long", at 0.
  refusal_15 : (p : ℕ) →
      Draws (draw-is.Refused (refusal text_too_long p)) ↔
      ((p ≡ 0) × (h : Header) × (es : List Entry) × (cs : List Command) × (k : ℕ) × (FilesSay h es cs k) × (max_text < length text))
  refusal_15 p = Iff.trans (draw-calls.told_is size s control text room _) (drawing.row_15 size s control text room p)

  -- 16, "drawn line wider than 1,000", at 0.
  refusal_16_of_draw : (p : ℕ) →
      Draws (draw-is.Refused (refusal line_too_wide p)) ↔
      ((p ≡ 0) × (h : Header) × (es : List Entry) × (cs : List Command) × (k : ℕ) × (FilesSay h es cs k) ×
      (length text ≤ max_text) × (max_line_width < (line_for h es cs k).width))
  refusal_16_of_draw p = Iff.trans (draw-calls.told_is size s control text room _) (drawing.row_16 size s control text room p)

  -- Otherwise "the answer gives the width", and 02, Q-2, the counts of the text.
  draws_otherwise : (w : ℕ) (n : Counts) →
      Draws (draw-is.Drawn w n) ↔
      ((h : Header) × (es : List Entry) × (cs : List Command) × (k : ℕ) × (FilesSay h es cs k) ×
      (length text ≤ max_text) × ((line_for h es cs k).width ≤ max_line_width) × (h.height * ((line_for h es cs k).width + 1) ≤ room) × (w ≡ (line_for h es cs k).width) × (n ≡ font_counts s es cs k text))
  draws_otherwise w n = Iff.trans (draw-calls.told_is size s control text room _) (drawing.row_drawn size s control text room w n)

-- "Join: 17, 16, 9."
module _ (y : Mode) (h n : ℕ) (line : List ℕ) (m : ℕ) (character : List ℕ) (room : ℕ) where
  -- "Writing left to right the line is the left block, otherwise the character."
  abbrev left_block : Block
  left_block = left_of y.direction (exact_block n line) (exact_block m character)

  abbrev right_block : Block
  right_block = right_of y.direction (exact_block n line) (exact_block m character)

  abbrev result_width_lem : ℕ
  result_width_lem = (besides y h left_block right_block).width

  abbrev Joins : Result Joined Refusal → Type 0
  Joins a = join_told y h n line m character room ≡ join_tells a

  -- 17, "join .. of bad shape": "height outside 1 to 32, line width over 1,000, character width over 199, rules outside 1 to 63 in controlled mode, a hardblank that 3 refuses,
  -- or blocks not exactly height times width long".
  abbrev ShapeBad : Type 0
  ShapeBad =
      (h < 1) ⊎
      (max_height < h) ⊎
      (max_line_width < n) ⊎
      (max_character_width < m) ⊎
      ((rules : ℕ) × (y.layout ≡ Smushing (Controlled rules)) × ((rules < 1) ⊎ (max_rules < rules))) ⊎
      (legal_hardblank y.hardblank.0 ≡ false) ⊎
      (length line ≡ h * n → ⊥) ⊎
      (length character ≡ h * m → ⊥)

  refusal_17_of_join : (p : ℕ) → Joins (Err (refusal bad_shape p)) ↔ ((p ≡ 0) × ShapeBad)
  refusal_17_of_join = join-answers.row_17 y h n line m character room

  -- 16, "drawn line wider than 1,000", at 0.
  refusal_16_of_join : (p : ℕ) → Joins (Err (refusal line_too_wide p)) ↔ ((p ≡ 0) × (ShapeBad → ⊥) × (max_line_width < result_width_lem))
  refusal_16_of_join = join-answers.row_16 y h n line m character room

  -- 9, "a lent area is too small", at 0.
  refusal_9_of_join : (p : ℕ) → Joins (Err (refusal area_too_small p)) ↔ ((p ≡ 0) × (ShapeBad → ⊥) × (result_width_lem ≤ max_line_width) × (room < h * result_width_lem))
  refusal_9_of_join = join-answers.row_9 y h n line m character room

  -- Otherwise "it answers the overlap and the result width".
  joins_otherwise : (o w : ℕ) →
      Joins (joining o w) ↔ ((ShapeBad → ⊥) × (result_width_lem ≤ max_line_width) × (h * result_width_lem ≤ room) × (o ≡ overlap y h left_block right_block) × (w ≡ result_width_lem))
  joins_otherwise = join-answers.row-joined y h n line m character room

-- 17, "row request of bad shape": "a row number at or above Height, or a code with neither drawing nor stand-in", after the font's refusals.
module _ (s : List ℕ) (c : Code) (r : ℕ) where
  refusal_17_of_row : (p : ℕ) →
      row_told s c r ≡ row_tells (Err (refusal bad_shape p)) ↔ ((p ≡ 0) × ((h : Header) × (es : List Entry) × (reading s ≡ says h es) × ((h.height ≤ r) ⊎ (used c es ≡ None))))
  refusal_17_of_row = row-calls.told_17 s c r

  font_refusals_of_row : (q : Refusal) → number_of q.reason ≤ number_of too_many_characters → row_told s c r ≡ row_tells (Err q) ↔ reading s ≡ refuses q
  font_refusals_of_row = row-calls.told_font s c r

  -- "A row request gives the row as a part of the font."
  row_is_a_part : (p w : ℕ) → row_told s c r ≡ row_tells (Ok (record { place = p; width = w })) → (row_bytes s c r ≡ take w (drop p s)) × (p + w ≤ length s)
  row_is_a_part = row-calls.part-told s c r

  -- "A refused row is empty."
  refused_row_empty : (row_told s c r).refused ≡ true → row_bytes s c r ≡ []
  refused_row_empty = row-calls.row-refused s c r

-- ================================================================ demand 2: fonts, mapping, pairs

-- "The lent index holds .. in file order": behind the header line and the comment lines the characters stand so.
characters_in_file_order : (s : List ℕ) (h : Header) (es : List Entry) → reading s ≡ says h es → InOrder (format h) (drop (suc h.comment_lines) (lines_from s 0)) es
characters_in_file_order = fonts.font_ordered

-- "Codes 32 to 126, then 196, 214, 220, 228, 246, 252, 223; then tagged characters": the first 102 characters have the required codes in order,
first_characters_required : (s : List ℕ) (h : Header) (es : List Entry) → reading s ≡ says h es → map (λ (e : Entry). e.code) (take required_count es) ≡ map (λ (c : ℕ). code (pos c)) required_codes
first_characters_required = fonts.font_required

-- and each of the others stands right behind a tag line that names its code.
other_characters_tagged : (s : List ℕ) (h : Header) (es : List Entry) → reading s ≡ says h es → EachTagged (drop (suc h.comment_lines) (lines_from s 0)) (drop required_count es)
other_characters_tagged = fonts.font_tagged

-- "When codes repeat, the last is used.
last_of_repeated_codes : (z : ℤ) (codes : List ℤ) (k : ℕ) → last_at z codes ≡ Some k → Last z codes k
last_of_repeated_codes = looking.at_last

-- Otherwise the character with code 0 stands in; if there is none, nothing is drawn."
code_0_stands_in : (c : Code) (codes : List ℤ) → last_at c.0 codes ≡ None → look_up c codes ≡ last_at (pos 0) codes
unfolding look_up
code_0_stands_in c codes e = ap (λ (f : Option ℕ). or_stand_in f (last_at (pos 0) codes)) e

-- "Within a stage the first command that fits acts, once."
first_command_acts : (before : List Command) (c : Command) (bs : List Command) (z : Code) → NoneFits z before → fits c z ≡ true → through_stage (before ++ (c ∷ bs)) z ≡ new_code c z
first_command_acts = mapping.first_acts

no_command_fits : (cs : List Command) (z : Code) → NoneFits z cs → through_stage cs z ≡ z
no_command_fits = mapping.passes_through

-- "No pair is joined by two rules."
no_pair_by_two_rules : (h l r : ℕ) (p q : Rule) (x z : ℕ) → by_rule p h l r ≡ Some x → by_rule q h l r ≡ Some z → p ≡ q
no_pair_by_two_rules = rules.one_rule

-- "Its rule in the set": a rule of the set that joins a pair without a blank gives its byte.
rule_of_the_set_joins : (set h l r : ℕ) (rule : Rule) (x : ℕ) → in_set set rule ≡ true → by_rule rule h l r ≡ Some x → controlled set h l r ≡ ByRule rule (record { 0 = x })
rule_of_the_set_joins = sets.controlled-by

-- "Universal joins every pair."
universal_joins_every_pair : (direction : Direction) (hardblank : SubCharacter) (l r : ℕ) → joins (record { layout = Smushing Universal; direction = direction; hardblank = hardblank }) l r ≡ true
universal_joins_every_pair = joints.universal-joins

-- ================================================================ demand 3

-- "Put a line so far and the next FIGcharacter of equal height side by side, whatever sub-characters they hold": any two blocks a, on the left, and b.
module _ (h : ℕ) (a b : Block) where
  abbrev narrower : ℕ
  narrower = min a.width b.width

  abbrev free_at : ℕ → Bool
  free_at o = free h a.width a.cells b.cells o

  -- "An overlap, at most the narrower width, is free if every facing pair of sub-characters has a blank in it."
  free_if : (o : ℕ) → ((r i : ℕ) → r < h → i < o → has_blank (a.cells r (a.width - o + i)) (b.cells r i) ≡ true) → free_at o ≡ true
  free_if = (demand.free h a b).free_if

  free_only_if : (o : ℕ) → free_at o ≡ true → (r i : ℕ) → r < h → i < o → has_blank (a.cells r (a.width - o + i)) (b.cells r i) ≡ true
  free_only_if = (demand.free h a b).free_only_if

  module _ (direction : Direction) (hardblank : SubCharacter) where
    abbrev by : Layout → ℕ
    by layout = overlap (record { layout = layout; direction = direction; hardblank = hardblank }) h a b

    abbrev joins_by : Kind → ℕ → ℕ → Bool
    joins_by kind = joins (record { layout = Smushing kind; direction = direction; hardblank = hardblank })

    -- "Full width overlaps nothing."
    full_width_overlaps_nothing : by FullWidth ≡ 0
    full_width_overlaps_nothing = demand.full_width_nothing h a b direction hardblank

    -- "Fitting takes an overlap that is free together with all smaller ones,
    fitting_is_free : (k : ℕ) → k ≤ by Fitting → free_at k ≡ true
    fitting_is_free = (demand.fitting h a b direction hardblank).fitting-free

    -- and every other such overlap is smaller."
    fitting_is_largest : (o : ℕ) → o ≤ narrower → ((k : ℕ) → k ≤ o → free_at k ≡ true) → (o ≡ by Fitting → ⊥) → o < by Fitting
    fitting_is_largest = (demand.fitting h a b direction hardblank).fitting-largest

    -- "Smushing either takes exactly one column more than fitting or stays at fitting's overlap.
    smushing_one_more_or_stays : (kind : Kind) → (by (Smushing kind) ≡ by Fitting + 1) ⊎ (by (Smushing kind) ≡ by Fitting)
    smushing_one_more_or_stays kind = (demand.smushing h a b direction hardblank kind).one_more_or_stays

    -- It stays exactly when the narrower width is used up there, or when with that column more some row faces a pair that the mode cannot join."
    smushing_stays_if : (kind : Kind) → (by Fitting ≡ narrower) ⊎ Fails (joins_by kind) h a.width a.cells b.cells (by Fitting + 1) → by (Smushing kind) ≡ by Fitting
    smushing_stays_if kind = (demand.smushing h a b direction hardblank kind).stays_if

    smushing_stays_only_if : (kind : Kind) → by (Smushing kind) ≡ by Fitting → (by Fitting ≡ narrower) ⊎ Fails (joins_by kind) h a.width a.cells b.cells (by Fitting + 1)
    smushing_stays_only_if kind = (demand.smushing h a b direction hardblank kind).stays_only_if

    -- "If one controlled set has every rule of another, it never gives the same line and character a smaller overlap."
    more_rules_no_smaller_overlap : (p q : ℕ) → EveryRuleOf p q → by (Smushing (Controlled p)) ≤ by (Smushing (Controlled q))
    more_rules_no_smaller_overlap = demand.more_rules_no_less h a b direction hardblank

  -- The result, in any mode.
  module _ (y : Mode) where
    abbrev o : ℕ
    o = overlap y h a b

    abbrev result : Block
    result = besides y h a b

    -- "An overlap, at most the narrower width."
    overlap_at_most_narrower : o ≤ narrower
    overlap_at_most_narrower = demand.overlap_narrower h a b y

    -- "The result width, the sum of both widths less the overlap."
    result_width : result.width ≡ a.width + b.width - o
    result_width = (demand.result h a b y).result_width

    -- "Unpaired sub-characters stay;
    left_stays : (r k : ℕ) → k < a.width - o → result.cells r k ≡ a.cells r k
    left_stays = (demand.result h a b y).left_stays

    right_stays : (r k : ℕ) → a.width ≤ k → result.cells r k ≡ b.cells r (k - (a.width - o))
    right_stays = (demand.result h a b y).right_stays

    -- a blank yields to its partner;
    left_blank_yields : (r k : ℕ) → a.width - o ≤ k → k < a.width → a.cells r k ≡ blank → result.cells r k ≡ b.cells r (k - (a.width - o))
    left_blank_yields = (demand.result h a b y).left_blank_yields

    right_blank_yields : (r k : ℕ) → a.width - o ≤ k → k < a.width → b.cells r (k - (a.width - o)) ≡ blank → result.cells r k ≡ a.cells r k
    right_blank_yields = (demand.result h a b y).right_blank_yields

    -- every other pair becomes its joint": it has one, and that is the sub-character.
    pair_has_a_joint : (r k : ℕ) → r < h → a.width - o ≤ k → k < a.width → joins y (a.cells r k) (b.cells r (k - (a.width - o))) ≡ true
    pair_has_a_joint = (demand.result h a b y).pair_joined

    joint-stands : (r k : ℕ) → a.width - o ≤ k → k < a.width → result.cells r k ≡ pair_byte y (a.cells r k) (b.cells r (k - (a.width - o)))
    joint-stands = (demand.result h a b y).joint-stands

-- "Blocks lie row after row": byte r * width + k of the area that join leaves is sub-character k of row r of that result.
module _ (y : Mode) (h n : ℕ) (line : List ℕ) (m : ℕ) (character : List ℕ) (room : ℕ) where
  abbrev join_result : Block
  join_result = besides y h (left_of y.direction (exact_block n line) (exact_block m character)) (right_of y.direction (exact_block n line) (exact_block m character))

  join_byte : (join_told y h n line m character room).refused ≡ false → (r k : ℕ) → r < h → k < join_result.width →
      get_or (join_area y h n line m character room) (r * join_result.width + k) 0 ≡ join_result.cells r k
  join_byte = joined-byte y h n line m character room

-- ================================================================ drawing

-- "Drawing maps each text byte's code, looks it up, and joins in turn": a byte more at the end of a text is one character more at the line, or none.
one_byte_one_join : (source : Source) (y : Mode) (h : ℕ) (cs : List Command) (k : ℕ) (text : List ℕ) (b : ℕ) →
    line_of y h source (text_codes cs k (text ++ (b ∷ []))) ≡ with_character y h (byte_choice source cs k b) (line_of y h source (text_codes cs k text))
one_byte_one_join = drawings.one_join_more

-- "The first character loses nothing at its edge."
first_character_whole : (y : Mode) (h : ℕ) (c : Block) → Like h (attached y h empty c) c
first_character_whole = first-whole

-- "The output is each row with hardblanks as blanks, then LF": of a text that is drawn,
module _ (size : ℕ) (s control text : List ℕ) (room : ℕ) (h : Header) (es : List Entry) (cs : List Command) (k : ℕ) (say : FilesSay size s control text room h es cs k) where
  abbrev line : Block
  line = line_for size s control text room h es cs k

  module _ (t : length text ≤ max_text) (w : line.width ≤ max_line_width) (m : h.height * (line.width + 1) ≤ room) where
    draw_byte : (r i : ℕ) → r < h.height → i < line.width → get_or (draw_output size s control text room) (r * (line.width + 1) + i) 0 ≡ blanked h.hardblank.0 (line.cells r i)
    unfolding draw_output
    draw_byte = drawing.output-byte size s control text room (drawing.files size s control text room h es cs k say) t w m

    draw_lf : (r : ℕ) → r < h.height → get_or (draw_output size s control text room) (r * (line.width + 1) + line.width) 0 ≡ byte "\n"
    unfolding draw_output
    draw_lf = drawing.output_lf size s control text room (drawing.files size s control text room h es cs k say) t w m

-- "Empty text gives Height LFs."
empty-text : (hardblank h : ℕ) → shown hardblank h empty ≡ replicate h (byte "\n")
empty-text = drawings.empty-shown

-- ================================================================ document 02, Q-1

-- "Fitting and smushing (16384 before 8192), universal or with the five rules of source document 000": a Full_Layout with 16384 is smushing, with 8192 or
-- without it;
module _ (full : ℕ) where
  -- universal where it has no rule,
  full_layout_universal : has full 16384 ≡ true → vertical_values full ≡ 0 → full_vertical full ≡ vertical.Smushing vertically.Universal
  unfolding full_vertical
  full_layout_universal e none = rw (e, eq-eqb (vertical_values full) 0 none)

  -- else controlled by those that it has;
  full_layout_controlled : has full 16384 ≡ true → (vertical_values full ≡ 0 → ⊥) → full_vertical full ≡ vertical.Smushing (vertically.Controlled (vertical_values full))
  unfolding full_vertical
  full_layout_controlled e some_rule = rw (e, ne_eqb (vertical_values full) 0 some_rule)

  full_layout_rules : (rule : VerticalRule) → set_has (vertical_values full) rule ≡ has full (rule_value rule)
  full_layout_rules = vertical-sets.full_rules full

  -- without 16384, one with 8192 is fitting,
  full_layout_fitting : has full 16384 ≡ false → has full 8192 ≡ true → full_vertical full ≡ vertical.Fitting
  unfolding full_vertical
  full_layout_fitting e f = rw (e, f)

  -- and with neither it is full height.
  full_layout_full_height : has full 16384 ≡ false → has full 8192 ≡ false → full_vertical full ≡ vertical.FullHeight
  unfolding full_vertical
  full_layout_full_height e f = rw (e, f)

-- "The five rules of source document 000": no pair is joined by two of the four but 4096.
no_pair_by_two_vertical_rules : (u l : ℕ) (p q : VerticalRule) (x y : ℕ) → (p ≡ VerticalLine → ⊥) → (q ≡ VerticalLine → ⊥) → rule_merges p u l ≡ Some x → rule_merges q u l ≡ Some y → p ≡ q
no_pair_by_two_vertical_rules = vertical-rules.no_two_rules

-- "For universal the lower block is the later one": of two visible sub-characters the lower one stands.
lower_is_the_later_one : (u l : ℕ) → (l ≡ blank → ⊥) → merged_byte (vertical.Smushing vertically.Universal) u l ≡ l
lower_is_the_later_one = vertical-rules.universal_lower_stands

-- Any two blocks a, n rows high, and b below it, m rows high.
module _ (hardblank n : ℕ) (a : Block) (m : ℕ) (b : Block) where
  -- Their columns: column c, row r.
  abbrev above : Cells
  above = upright hardblank a

  abbrev below : Cells
  below = upright hardblank b

  -- "Hardblanks are first made blanks,
  hardblanks_made_blanks : (c r : ℕ) → c < a.width → a.cells r c ≡ hardblank → above c r ≡ blank
  hardblanks_made_blanks = filling.hardblank-blanked hardblank a

  others_as_they_are : (c r : ℕ) → c < a.width → (a.cells r c ≡ hardblank → ⊥) → above c r ≡ a.cells r c
  others_as_they_are = filling.other-kept hardblank a

  hardblanks_made_blanks_below : (c r : ℕ) → c < b.width → b.cells r c ≡ hardblank → below c r ≡ blank
  hardblanks_made_blanks_below = filling.hardblank-blanked hardblank b

  others_as_they_are_below : (c r : ℕ) → c < b.width → (b.cells r c ≡ hardblank → ⊥) → below c r ≡ b.cells r c
  others_as_they_are_below = filling.other-kept hardblank b

  -- the narrower block is filled with blanks on the right."
  filled_on_the_right : (c r : ℕ) → a.width ≤ c → above c r ≡ blank
  filled_on_the_right = columns.cell_beyond hardblank a

  filled_on_the_right_below : (c r : ℕ) → b.width ≤ c → below c r ≡ blank
  filled_on_the_right_below = columns.cell_beyond hardblank b

  abbrev greater_width : ℕ
  greater_width = max a.width b.width

  abbrev smaller_height : ℕ
  smaller_height = min n m

  abbrev free_rows : ℕ → Bool
  free_rows o = free greater_width n above below o

  abbrev rows_by : VerticalLayout → ℕ
  rows_by layout = stack_overlap layout hardblank n a m b

  abbrev universally : VerticalLayout
  universally = vertical.Smushing vertically.Universal

  abbrev ruled : ℕ → VerticalLayout
  ruled set = vertical.Smushing (vertically.Controlled set)

  -- "Demand 3 then speaks of columns too (upper for left, lower for right, height and width exchanged, rows and columns too), supersmushing apart."
  -- "An overlap, at most the smaller height, is free if every facing pair of sub-characters has a blank in it."
  rows_free_if : (o : ℕ) → ((c i : ℕ) → c < greater_width → i < o → has_blank (above c (n - o + i)) (below c i) ≡ true) → free_rows o ≡ true
  rows_free_if = (stacking.free hardblank n a m b).free_if

  rows_free_only_if : (o : ℕ) → free_rows o ≡ true → (c i : ℕ) → c < greater_width → i < o → has_blank (above c (n - o + i)) (below c i) ≡ true
  rows_free_only_if = (stacking.free hardblank n a m b).free_only_if

  -- "Full height overlaps nothing."
  full_height_overlaps_nothing : rows_by vertical.FullHeight ≡ 0
  full_height_overlaps_nothing = stacking.full_height_nothing hardblank n a m b

  -- "Fitting takes an overlap that is free together with all smaller ones,
  rows_fitting_free : (k : ℕ) → k ≤ rows_by vertical.Fitting → free_rows k ≡ true
  rows_fitting_free = (stacking.fits hardblank n a m b).fitting-free

  -- and every other such overlap is smaller."
  rows_fitting_largest : (o : ℕ) → o ≤ smaller_height → ((k : ℕ) → k ≤ o → free_rows k ≡ true) → (o ≡ rows_by vertical.Fitting → ⊥) → o < rows_by vertical.Fitting
  rows_fitting_largest = (stacking.fits hardblank n a m b).fitting-largest

  -- "Smushing either takes exactly one row more than fitting or stays at fitting's overlap.
  universal_one_more_or_stays : (rows_by universally ≡ rows_by vertical.Fitting + 1) ⊎ (rows_by universally ≡ rows_by vertical.Fitting)
  universal_one_more_or_stays = (stacking.universal hardblank n a m b).one_more_or_stays

  -- It stays exactly when the smaller height is used up there, or when with that row more some column faces a pair that the mode cannot join":
  -- universal,
  universal_stays_if : (rows_by vertical.Fitting ≡ smaller_height) ⊎ Fails (merges universally) greater_width n above below (rows_by vertical.Fitting + 1) → rows_by universally ≡ rows_by vertical.Fitting
  universal_stays_if = (stacking.universal hardblank n a m b).stays_if

  universal_stays_only_if : rows_by universally ≡ rows_by vertical.Fitting → (rows_by vertical.Fitting ≡ smaller_height) ⊎ Fails (merges universally) greater_width n above below (rows_by vertical.Fitting + 1)
  universal_stays_only_if = (stacking.universal hardblank n a m b).stays_only_if

  -- and by a set without 4096.
  module _ (set : ℕ) (without : set_has set VerticalLine ≡ false) where
    ruled_one_more_or_stays : (rows_by (ruled set) ≡ rows_by vertical.Fitting + 1) ⊎ (rows_by (ruled set) ≡ rows_by vertical.Fitting)
    ruled_one_more_or_stays = (stacking.controlled hardblank n a m b set without).one_more_or_stays

    ruled_stays_if : (rows_by vertical.Fitting ≡ smaller_height) ⊎ Fails (merges (ruled set)) greater_width n above below (rows_by vertical.Fitting + 1) → rows_by (ruled set) ≡ rows_by vertical.Fitting
    ruled_stays_if = (stacking.controlled hardblank n a m b set without).stays_if

    ruled_stays_only_if : rows_by (ruled set) ≡ rows_by vertical.Fitting → (rows_by vertical.Fitting ≡ smaller_height) ⊎ Fails (merges (ruled set)) greater_width n above below (rows_by vertical.Fitting + 1)
    ruled_stays_only_if = (stacking.controlled hardblank n a m b set without).stays_only_if

  -- "If one controlled set has every rule of another, it never gives the same blocks a smaller overlap."
  more_vertical_rules_no_smaller_overlap : (p q : ℕ) → set_has p VerticalLine ≡ false → set_has q VerticalLine ≡ false → EveryVerticalRuleOf p q → rows_by (ruled p) ≤ rows_by (ruled q)
  more_vertical_rules_no_smaller_overlap = stacking.more_rules_no_less hardblank n a m b

  -- "With supersmushing, take the largest overlap, at most the smaller height, that together with all smaller ones faces only pairs with a blank or of two
  -- bars";
  abbrev barred_rows : ℕ
  barred_rows = furthest barred greater_width n m above below

  barred_if : (o : ℕ) → ((c i : ℕ) → c < greater_width → i < o → barred (above c (n - o + i)) (below c i) ≡ true) → facing barred greater_width n above below o ≡ true
  barred_if = lanes.facing_of barred greater_width n above below

  barred_only_if : (o : ℕ) → facing barred greater_width n above below o ≡ true → (c i : ℕ) → c < greater_width → i < o → barred (above c (n - o + i)) (below c i) ≡ true
  barred_only_if = lanes.facing-at barred greater_width n above below

  barred_rows_at_most_smaller_height : barred_rows ≤ smaller_height
  barred_rows_at_most_smaller_height = lanes.furthest_le greater_width n m above below barred

  barred_rows_face_bars : (k : ℕ) → k ≤ barred_rows → facing barred greater_width n above below k ≡ true
  barred_rows_face_bars = (stacking.bars_furthest hardblank n a m b).passes

  barred_rows_largest : (o : ℕ) → o ≤ smaller_height → ((k : ℕ) → k ≤ o → facing barred greater_width n above below k ≡ true) → (o ≡ barred_rows → ⊥) → o < barred_rows
  barred_rows_largest = (stacking.bars_furthest hardblank n a m b).largest

  -- "if it exceeds the fitting overlap it is the answer,
  supersmushing_exceeds : (set : ℕ) → set_has set VerticalLine ≡ true → rows_by vertical.Fitting < barred_rows → rows_by (ruled set) ≡ barred_rows
  supersmushing_exceeds = stacking.super_exceeds hardblank n a m b

  -- else the other rules are tried one row further."
  else_the_other_rules : (set : ℕ) → set_has set VerticalLine ≡ true → barred_rows ≤ rows_by vertical.Fitting → rows_by (ruled set) ≡ rows_by (ruled (other_rules set))
  else_the_other_rules = stacking.super_others hardblank n a m b

  -- The result, in any layout.
  module _ (layout : VerticalLayout) where
    abbrev rows : ℕ
    rows = rows_by layout

    abbrev stack_result : Stack
    stack_result = stacked layout hardblank n a m b

    -- "An overlap, at most the smaller height."
    overlap_at_most_smaller_height : rows ≤ smaller_height
    overlap_at_most_smaller_height = stacking.overlap_smaller hardblank n a m b layout

    overlap-told : stack_result.overlap ≡ rows
    overlap-told = stacking.stack_overlap_lem hardblank n a m b layout

    -- "The result height, the sum of both heights less the overlap."
    result_height : stack_result.height ≡ n + m - rows
    result_height = (stacking.stack_cells hardblank n a m b layout).result_width

    -- "The narrower block is filled": the result is as wide as the wider one.
    result_as_wide_as_the_wider : stack_result.block.width ≡ greater_width
    result_as_wide_as_the_wider = stacking.stack_width hardblank n a m b layout

    -- "Unpaired sub-characters stay;
    upper_stays : (c r : ℕ) → r < n - rows → stack_result.block.cells r c ≡ above c r
    upper_stays = (stacking.stack_cells hardblank n a m b layout).left_stays

    lower_stays : (c r : ℕ) → n ≤ r → stack_result.block.cells r c ≡ below c (r - (n - rows))
    lower_stays = (stacking.stack_cells hardblank n a m b layout).right_stays

    -- a blank yields to its partner;
    upper_blank_yields : (c r : ℕ) → n - rows ≤ r → r < n → above c r ≡ blank → stack_result.block.cells r c ≡ below c (r - (n - rows))
    upper_blank_yields = (stacking.stack_cells hardblank n a m b layout).left_blank_yields

    lower_blank_yields : (c r : ℕ) → n - rows ≤ r → r < n → below c (r - (n - rows)) ≡ blank → stack_result.block.cells r c ≡ above c r
    lower_blank_yields = (stacking.stack_cells hardblank n a m b layout).right_blank_yields

    -- every other pair becomes its joint": it has one, and that is the sub-character.
    stacked_pair_has_a_joint : (c r : ℕ) → c < greater_width → n - rows ≤ r → r < n → merges layout (above c r) (below c (r - (n - rows))) ≡ true
    stacked_pair_has_a_joint = (stacking.stack_cells hardblank n a m b layout).pair_joined

    stacked_joint_stands : (c r : ℕ) → n - rows ≤ r → r < n → stack_result.block.cells r c ≡ merged_byte layout (above c r) (below c (r - (n - rows)))
    stacked_joint_stands = (stacking.stack_cells hardblank n a m b layout).joint-stands

-- Two bars: with 4096 they become a bar; one row further, where the other rules are tried, they need 256.
module _ (set u l : ℕ) where
  two_bars_become_a_bar : set_has set VerticalLine ≡ true → two_bars u l ≡ true → merged_byte (vertical.Smushing (vertically.Controlled set)) u l ≡ byte "|"
  two_bars_become_a_bar = vertical-rules.bars_become_a_bar set u l

  two_bars_need_256 : two_bars u l ≡ true → merges (vertical.Smushing (vertically.Controlled (other_rules set))) u l ≡ set_has set EqualCharacter
  two_bars_need_256 = vertical-rules.bars_need_256 set u l

-- "Refusals: 17 as in the join, but upper height to 64, both widths to 1,000 and the five rules; 18, stack over 64 rows; 9", each exactly when, at place 0.
module _ (layout : VerticalLayout) (hardblank n upperWidth : ℕ) (upper : List ℕ) (m lowerWidth : ℕ) (lower : List ℕ) (room : ℕ) where
  abbrev bad : Type 0
  bad = BadStack layout hardblank n upperWidth upper m lowerWidth lower

  -- of bad shape: "upper height outside 1 to 64, lower height outside 1 to 32, a width over 1,000, a hardblank that 3 refuses, a controlled set that is no sum of one to
  -- five of the rules, a block not exactly height times width long",
  bad_stack_is :
      bad ↔
      ((n < 1) ⊎
      (max_stack_height < n) ⊎
      (m < 1) ⊎
      (max_height < m) ⊎
      (max_line_width < upperWidth) ⊎
      (max_line_width < lowerWidth) ⊎
      (legal_hardblank hardblank ≡ false) ⊎
      ((set : ℕ) × (layout ≡ vertical.Smushing (vertically.Controlled set)) × (vertical-sets.SumOfRules set → ⊥)) ⊎
      (length upper ≡ n * upperWidth → ⊥) ⊎
      (length lower ≡ m * lowerWidth → ⊥))
  bad_stack_is = stack-answers.stack_listed layout hardblank n upperWidth upper m lowerWidth lower

  abbrev stack_asked : Stack
  stack_asked = stack_of layout hardblank n upperWidth upper m lowerWidth lower

  refusal_17_of_stack : stack_told layout hardblank n upperWidth upper m lowerWidth lower room ≡ no_stack bad_shape ↔ bad
  refusal_17_of_stack = stack-answers.exactly_17 layout hardblank n upperWidth upper m lowerWidth lower room

  refusal_18_of_stack : stack_told layout hardblank n upperWidth upper m lowerWidth lower room ≡ no_stack stack_too_high ↔ ((bad → ⊥) × (max_stack_height < stack_asked.height))
  refusal_18_of_stack = stack-answers.exactly_18 layout hardblank n upperWidth upper m lowerWidth lower room

  refusal_9_of_stack : stack_told layout hardblank n upperWidth upper m lowerWidth lower room ≡ no_stack area_too_small ↔ ((bad → ⊥) × (stack_asked.height ≤ max_stack_height) × (room < stack_asked.height * stack_asked.block.width))
  refusal_9_of_stack = stack-answers.exactly_9 layout hardblank n upperWidth upper m lowerWidth lower room

  -- Otherwise the answer is overlap, height and width of the result.
  stack_stacks : stack_told layout hardblank n upperWidth upper m lowerWidth lower room ≡ stack_tells (stacking stack_asked.overlap stack_asked.height stack_asked.block.width) ↔
      ((bad → ⊥) × (stack_asked.height ≤ max_stack_height) × (stack_asked.height * stack_asked.block.width ≤ room))
  stack_stacks = stack-answers.exactly_stacked layout hardblank n upperWidth upper m lowerWidth lower room

  -- There is no other answer.
  stack_answers_so : stack-answers.StacksTo layout hardblank n upperWidth upper m lowerWidth lower room (stack_told layout hardblank n upperWidth upper m lowerWidth lower room)
  stack_answers_so = stack-answers.one_of layout hardblank n upperWidth upper m lowerWidth lower room

  -- "A refusal fills every lent writable area with zeros."
  stack_wiped : (stack_told layout hardblank n upperWidth upper m lowerWidth lower room).refused ≡ true → stack_area layout hardblank n upperWidth upper m lowerWidth lower room ≡ zeros room
  stack_wiped = wiping.stack_wiped layout hardblank n upperWidth upper m lowerWidth lower room

  -- "Blocks lie row after row": byte r * width + c of the area that stack leaves is sub-character c of row r of that result.
  stack_byte : (stack_told layout hardblank n upperWidth upper m lowerWidth lower room).refused ≡ false → (r c : ℕ) → r < stack_asked.height → c < stack_asked.block.width →
      get_or (stack_area layout hardblank n upperWidth upper m lowerWidth lower room) (r * stack_asked.block.width + c) 0 ≡ stack_asked.block.cells r c
  stack_byte = stacked-byte layout hardblank n upperWidth upper m lowerWidth lower room

-- "Vertical full height (also without Full_Layout)."
absent_full_layout_full_height : vertical_of None ≡ vertical.FullHeight
absent_full_layout_full_height = refl

-- Two texts drawn by a font s and a control file, one above the other: "9 (scratch under 64,000 ..), the font's, the control file's, 15 (either text), .. 16
-- (either line), 9 (out)".
module _ (size : ℕ) (s control upper lower : List ℕ) (room : ℕ) where
  -- The scratch is large enough, and the files say this.
  abbrev BothFilesSay : Header → List Entry → List Command → ℕ → Type 0
  BothFilesSay h es cs k = (min_stacked_scratch ≤ size) × (reading s ≡ says h es) × (flc.control control ≡ flc.reads cs k)

  -- "Both texts drawn as lines by the font's horizontal layout and direction,
  abbrev upper_line : Header → List Entry → List Command → ℕ → Block
  upper_line h es cs k = font_line s h es cs k upper

  abbrev lower_line : Header → List Entry → List Command → ℕ → Block
  lower_line h es cs k = font_line s h es cs k lower

  -- then stacked by its vertical layout."
  abbrev lines_stacked : Header → List Entry → List Command → ℕ → Stack
  lines_stacked h es cs k = stacked (vertical_of h.full_layout) h.hardblank.0 h.height (upper_line h es cs k) h.height (lower_line h es cs k)

  -- Neither text is too long and neither line too wide.
  abbrev BothLinesFit : Header → List Entry → List Command → ℕ → Type 0
  BothLinesFit h es cs k =
      (length upper ≤ max_text) × (length lower ≤ max_text) × ((upper_line h es cs k).width ≤ max_line_width) × ((lower_line h es cs k).width ≤ max_line_width)

  abbrev lines_drawn : TwoLines
  lines_drawn = draw_lines size s control upper lower

  abbrev DrawsStacked : Result Stacked Refusal → Type 0
  DrawsStacked a = lines_told lines_drawn room ≡ stack_tells a

  font_refusals_of_draw_stacked : (r : Refusal) → number_of r.reason ≤ number_of too_many_characters → DrawsStacked (Err r) ↔ ((min_stacked_scratch ≤ size) × (reading s ≡ refuses r))
  font_refusals_of_draw_stacked = line-rows.row_font size s control upper lower room

  control_refusals_of_draw_stacked : (r : Refusal) → number_of control_file_too_long ≤ number_of r.reason → number_of r.reason ≤ number_of too_many_commands →
      DrawsStacked (Err r) ↔ ((min_stacked_scratch ≤ size) × (h : Header) × (es : List Entry) × (reading s ≡ says h es) × (flc.control control ≡ flc.refuses r))
  control_refusals_of_draw_stacked = line-rows.row-control size s control upper lower room

  -- 9, at 0: the scratch, or else, behind all others, the output, each row of the stack and an LF.
  refusal_9_of_draw_stacked : (p : ℕ) →
      DrawsStacked (Err (refusal area_too_small p)) ↔
      ((p ≡ 0) ×
      ((size < min_stacked_scratch) ⊎
      ((h : Header) × (es : List Entry) × (cs : List Command) × (k : ℕ) × (BothFilesSay h es cs k) × (BothLinesFit h es cs k) ×
      (room < (lines_stacked h es cs k).height * ((lines_stacked h es cs k).block.width + 1)))))
  refusal_9_of_draw_stacked = line-rows.row_9 size s control upper lower room

  -- 15, at 0, "either text".
  refusal_15_of_draw_stacked : (p : ℕ) →
      DrawsStacked (Err (refusal text_too_long p)) ↔
      ((p ≡ 0) × (h : Header) × (es : List Entry) × (cs : List Command) × (k : ℕ) × (BothFilesSay h es cs k) × ((max_text < length upper) ⊎ (max_text < length lower)))
  refusal_15_of_draw_stacked = line-rows.row_15 size s control upper lower room

  -- 16, at 0, "either line".
  refusal_16_of_draw_stacked : (p : ℕ) →
      DrawsStacked (Err (refusal line_too_wide p)) ↔
      ((p ≡ 0) × (h : Header) × (es : List Entry) × (cs : List Command) × (k : ℕ) × (BothFilesSay h es cs k) × (length upper ≤ max_text) × (length lower ≤ max_text) ×
      ((max_line_width < (upper_line h es cs k).width) ⊎ (max_line_width < (lower_line h es cs k).width)))
  refusal_16_of_draw_stacked = line-rows.row_16 size s control upper lower room

  -- Otherwise "overlap, height, width" of the stack.
  draws_stacked_otherwise : (o n w : ℕ) →
      DrawsStacked (stacking o n w) ↔
      ((h : Header) × (es : List Entry) × (cs : List Command) × (k : ℕ) × (BothFilesSay h es cs k) × (BothLinesFit h es cs k) ×
      ((lines_stacked h es cs k).height * ((lines_stacked h es cs k).block.width + 1) ≤ room) ×
      (o ≡ (lines_stacked h es cs k).overlap) × (n ≡ (lines_stacked h es cs k).height) × (w ≡ (lines_stacked h es cs k).block.width))
  draws_stacked_otherwise = line-rows.row-stacked size s control upper lower room

  -- It has no refusal but those from 1 to 16:
  refusals_of_draw_stacked : (lines_told lines_drawn room).refused ≡ true → (number_of font_too_long ≤ (lines_told lines_drawn room).number) × ((lines_told lines_drawn room).number ≤ number_of line_too_wide)
  refusals_of_draw_stacked e = ((line-answers.refused-tells size s control upper lower room e).number_from_1, (line-answers.refused-tells size s control upper lower room e).number_to_16)

  -- "18 cannot come (twice 32 rows)."
  no_refusal_18_of_draw_stacked : (lines_told lines_drawn room).number ≡ number_of stack_too_high → ⊥
  no_refusal_18_of_draw_stacked = line-answers.never_18 size s control upper lower room

  -- "A refusal fills every lent writable area with zeros"; the scratch is zeros after every answer by the call's contract.
  draw_stacked_wiped : (lines_told lines_drawn room).refused ≡ true → lines_output lines_drawn room ≡ zeros room
  draw_stacked_wiped = wiping.lines_wiped lines_drawn room

  -- "Closed up as the font says": the vertical layout is that of the font's Full_Layout.
  vertical_layout_is_the_fonts : (h : Header) (es : List Entry) → reading s ≡ says h es → font_vertical (reading s) ≡ vertical_of h.full_layout
  vertical_layout_is_the_fonts h es e = ap font_vertical e

  -- "Output is each row, then LF": of two texts that are drawn,
  module _ (h : Header) (es : List Entry) (cs : List Command) (k : ℕ) (say : BothFilesSay h es cs k) (fit : BothLinesFit h es cs k) where
    abbrev drawn_stack : Stack
    drawn_stack = lines_stacked h es cs k

    module _ (m : drawn_stack.height * (drawn_stack.block.width + 1) ≤ room) where
      draw_stacked_byte : (r c : ℕ) → r < drawn_stack.height → c < drawn_stack.block.width → get_or (lines_output lines_drawn room) (r * (drawn_stack.block.width + 1) + c) 0 ≡ drawn_stack.block.cells r c
      draw_stacked_byte = line-bytes.output-byte size s control upper lower room (line-rows.files size s control upper lower room h es cs k say) (line-rows.fits size s control upper lower room h es cs k say fit) m

      draw_stacked_lf : (r : ℕ) → r < drawn_stack.height → get_or (lines_output lines_drawn room) (r * (drawn_stack.block.width + 1) + drawn_stack.block.width) 0 ≡ byte "\n"
      draw_stacked_lf = line-bytes.output_lf size s control upper lower room (line-rows.files size s control upper lower room h es cs k say) (line-rows.fits size s control upper lower room h es cs k say fit) m

-- ================================================================ document 02, Q-2

-- "The look-up must say which of three it was:
module _ (c : Code) (es : List Entry) where
  -- found as itself": exactly if some entry has the code,
  found_exactly : ((e : Entry) × (looked_up c es ≡ three.Found e)) ↔ Has c.0 es
  found_exactly = three-cases.found_exactly c es

  -- "stood in by code 0": exactly if none has it and some entry has code 0,
  stood_in_exactly : ((e : Entry) × (looked_up c es ≡ three.StoodIn e)) ↔ ((Has c.0 es → ⊥) × Has (pos 0) es)
  stood_in_exactly = three-cases.stood_in_exactly c es

  -- "or nothing": exactly if neither.
  nothing_exactly : looked_up c es ≡ three.Nothing ↔ ((Has c.0 es → ⊥) × (Has (pos 0) es → ⊥))
  nothing_exactly = three-cases.nothing_exactly c es

  -- One of the three holds,
  one_of_three : ((e : Entry) × (looked_up c es ≡ three.Found e)) ⊎ (((e : Entry) × (looked_up c es ≡ three.StoodIn e)) ⊎ (looked_up c es ≡ three.Nothing))
  one_of_three = go (looked_up c es) refl
    where
      go : (u : LookedUp) → looked_up c es ≡ u → ((e : Entry) × (looked_up c es ≡ three.Found e)) ⊎ (((e : Entry) × (looked_up c es ≡ three.StoodIn e)) ⊎ (looked_up c es ≡ three.Nothing))
      go (three.Found e) p = inl (e, p)
      go (three.StoodIn e) p = inr (inl (e, p))
      go three.Nothing p = inr (inr p)

  -- and they exclude one another.
  found_excludes_stood_in : (d e : Entry) → looked_up c es ≡ three.Found d → looked_up c es ≡ three.StoodIn e → ⊥
  found_excludes_stood_in d e p q = clash (cc)

  found_excludes_nothing : (d : Entry) → looked_up c es ≡ three.Found d → looked_up c es ≡ three.Nothing → ⊥
  found_excludes_nothing d p q = clash (cc)

  stood_in_excludes_nothing : (d : Entry) → looked_up c es ≡ three.StoodIn d → looked_up c es ≡ three.Nothing → ⊥
  stood_in_excludes_nothing d p q = clash (cc)

-- "A code 0 that the font has is found": none stands in for it.
code_0_is_found : (es : List Entry) → Has (pos 0) es → (e : Entry) × (looked_up (code (pos 0)) es ≡ three.Found e)
code_0_is_found = three-cases.zero-found

code_0_is_never_stood_in : (es : List Entry) (e : Entry) → looked_up (code (pos 0)) es ≡ three.StoodIn e → ⊥
code_0_is_never_stood_in = three-cases.zero_never_stood_in

-- "Look-up answers found .., stood in .., nothing, or refused": one of three exactly if the font is read and its characters say so,
look_up_of_a_font : (s : List ℕ) (c : Code) (u : LookedUp) → look_up_told s c ≡ look_up_tells (Ok u) ↔ ((h : Header) × (es : List Entry) × (reading s ≡ says h es) × (looked_up c es ≡ u))
look_up_of_a_font = look-ups.looked_exactly

-- "so does `find_in` over a lent index": of its first entries.
look_up_in_an_index : (es : List Entry) (count : ℕ) (c : Code) (u : LookedUp) → found_told es count c ≡ entry_tells u ↔ looked_up c (take count es) ≡ u
unfolding found_told
look_up_in_an_index es count c u = (finding.entry_apart (looked_up c (take count es)) u, λ e. ap entry_tells e)

-- "Drawing then returns how many text bytes are in the second and in the third group, by the definition of look-up": whatever gives the characters, and by
-- any control file,
module _ (source : Source) (cs : List Command) (k : ℕ) where
  -- each text byte is counted by the code that it is mapped to,
  counts_of_one_byte_more : (text : List ℕ) (b : ℕ) → counts_of source (text_codes cs k (text ++ (b ∷ []))) ≡ counted (byte_choice source cs k b) (counts_of source (text_codes cs k text))
  counts_of_one_byte_more = drawings.one_byte_counted source cs k

  -- and "the number of characters drawn, plus those that drew nothing, is the number of text bytes".
  drawn_and_nothing_drawn : (text : List ℕ) → length (characters_of source (text_codes cs k text)) + (counts_of source (text_codes cs k text)).nothing_drawn ≡ length text
  drawn_and_nothing_drawn = drawings.all-bytes source cs k

-- Of a font's text at most one of the two counts is not 0.
never_both_counts : (s : List ℕ) (es : List Entry) (cs : List Command) (k : ℕ) (text : List ℕ) → ((font_counts s es cs k text).stood_in ≡ 0) ⊎ ((font_counts s es cs k text).nothing_drawn ≡ 0)
never_both_counts s es cs k text = counting.never_both s es (text_codes cs k text)

-- "A refusal tells 0 and 0."
module _ (size : ℕ) (s control : List ℕ) (room : ℕ) where
  no_counts_after_a_refusal : (text : List ℕ) → (draw_told size s control text room).refused ≡ true → ((draw_told size s control text room).stood_in ≡ 0) × ((draw_told size s control text room).nothing_drawn ≡ 0)
  no_counts_after_a_refusal text = draw-calls.refused_uncounted size s control text room

  -- The same of two lines, which otherwise tell the counts over both texts.
  module _ (upper lower : List ℕ) where
    no_counts_after_a_refusal_of_two : (lines_told (draw_lines size s control upper lower) room).refused ≡ true → lines_counts (draw_lines size s control upper lower) room ≡ no_counts
    no_counts_after_a_refusal_of_two = line-answers.counts-refused size s control upper lower room

    counts_over_both_texts :
        (h : Header) (es : List Entry) (cs : List Command) (k : ℕ) (say : BothFilesSay size s control upper lower room h es cs k) (fit : BothLinesFit size s control upper lower room h es cs k) →
        (lines_stacked size s control upper lower room h es cs k).height * ((lines_stacked size s control upper lower room h es cs k).block.width + 1) ≤ room →
        lines_counts (draw_lines size s control upper lower) room ≡ both_counts (font_counts s es cs k upper) (font_counts s es cs k lower)
    counts_over_both_texts h es cs k say fit = line-answers.counts-told size s control upper lower room (line-rows.files size s control upper lower room h es cs k say) (line-rows.fits size s control upper lower room h es cs k say fit)

-- ================================================================ document 02, Q-3

-- A line whose last byte is neither a blank nor a tab, or that has none.
abbrev EndsOtherwise : List ℕ → Type 0
EndsOtherwise t = (q : List ℕ) (x : ℕ) → t ≡ q ++ (x ∷ []) → is_blank x ≡ false

-- What is left ends so, and what was dropped is blanks and tabs.
dropped_blanks : (t : List ℕ) → EndsOtherwise (trimmed t) × ((b : List ℕ) × (t ≡ trimmed t ++ b) × (all is_blank b ≡ true))
dropped_blanks = row-lines.trimmed-is

-- A row line t, without its line end, in a font whose header says f.
module _ (f : Format) where
  -- Document 01's rule: "A row line loses its last block of equal bytes. .. Refusal 6: the line is empty, is longer than Max_Length with its marks, .. or its row holds a byte
  -- under 32 that is not the hardblank."
  abbrev first_rule : List ℕ → Option ℕ
  first_rule t = cond (ltb 0 (length t) && leb (length t) f.max_length && all (legal_byte f.hardblank.0) (unmarked t)) (Some (length (unmarked t))) None

  -- "Blanks and tabs at a row line's end are dropped first, then the last block of equal bytes. Max_Length is tested after dropping": that rule, on what is left.
  dropped_first : (t : List ℕ) → (row_of f t ≡ first_rule (trimmed t)) × (row t ≡ unmarked (trimmed t))
  unfolding row
  dropped_first t = (row-lines.dropped_first f t, refl)

  -- A line that ends in neither means what it meant,
  same_without_blanks : (t : List ℕ) → EndsOtherwise t → (row_of f t ≡ first_rule t) × (row t ≡ unmarked t)
  same_without_blanks = row-lines.means_the_same f

  -- and one of these that was legal is legal, with the same row.
  still_legal : (t : List ℕ) (w : ℕ) → EndsOtherwise t → first_rule t ≡ Some w → (row_of f t ≡ Some w) × (row t ≡ unmarked t)
  still_legal = row-lines.still_legal f

  -- With any number of blanks and tabs behind it, a line means the same as without them,
  same_with_blanks : (t b : List ℕ) → all is_blank b ≡ true → (row_of f (t ++ b) ≡ row_of f t) × (row (t ++ b) ≡ row t)
  same_with_blanks = row-lines.blanks-behind f

  -- and so do the lines of a character, in two fonts of any size: where the one is read with a width, the other is.
  same-characters : (size other w : ℕ) (ls ms : List TextLine) → map (λ (l : TextLine). trimmed l.text) ls ≡ map (λ (l : TextLine). trimmed l.text) ms →
      character_rows f size ls ≡ Ok w → character_rows f other ms ≡ Ok w
  same-characters = row-lines.characters-alike f

  -- "A line of only blanks and tabs is now refused":
  only_blanks_refused : (t : List ℕ) → all is_blank t ≡ true → row_of f t ≡ None
  only_blanks_refused = row-lines.only_blanks f

-- it, and the empty line, are those of which nothing is left.
nothing_left : (t : List ℕ) → length (trimmed t) ≡ 0 ↔ all is_blank t ≡ true
nothing_left = row-lines.nothing_left

-- "So neither is ever an endmark": a line that holds a row is the row, a block of endmarks m that are neither blank nor tab, the whole of it, and blanks and tabs.
abbrev Marked : List ℕ → Type 0
Marked t =
    (m : ℕ) × (marks : List ℕ) × (behind : List ℕ) × (t ≡ row t ++ (marks ++ behind)) ×
    (0 < length marks) × (all (eqb m) marks ≡ true) × ((q : List ℕ) → row t ≡ q ++ (m ∷ []) → ⊥) × (is_blank m ≡ false) × (all is_blank behind ≡ true)

never_an_endmark : (f : Format) (t : List ℕ) (w : ℕ) → row_of f t ≡ Some w → Marked t
never_an_endmark = row-lines.row-marked

-- And bytes q that stand so on a line, before such a block with blanks and tabs behind it, are its row.
row_so_marked : (q marks behind : List ℕ) (m : ℕ) →
    0 < length marks → all (eqb m) marks ≡ true → ((p : List ℕ) → q ≡ p ++ (m ∷ []) → ⊥) → is_blank m ≡ false → all is_blank behind ≡ true → row (q ++ (marks ++ behind)) ≡ q
row_so_marked = row-lines.row_so_marked

-- "Demand 2 reads the mended rule": so is the line of every row that a row request gives.
row_given_by_the_rule : (s : List ℕ) (c : Code) (r p w : ℕ) → row_told s c r ≡ row_tells (Ok (record { place = p; width = w })) → Marked (text_at s p) × (row_bytes s c r ≡ row (text_at s p))
row_given_by_the_rule = row-calls.line-told

-- ================================================================ document 02, Q-4

-- A text drawn by a font s and a control file in lines at most a limit wide: "9 (firsts or ends under 1,024 entries, scratch under 32,000), font, control, 15, .. 17
-- (limit outside 1 to 1,000), 19, 9 (out)".
module _ (firstRoom endRoom size : ℕ) (s control : List ℕ) (limit : ℕ) (text : List ℕ) (room : ℕ) where
  -- The lists and the scratch are large enough,
  abbrev ListsEnough : Type 0
  ListsEnough = (min_lines ≤ firstRoom) × (min_lines ≤ endRoom) × (min_scratch ≤ size)

  -- the files say this,
  abbrev LineFilesSay : Header → List Entry → List Command → ℕ → Type 0
  LineFilesSay h es cs k = ListsEnough × (reading s ≡ says h es) × (flc.control control ≡ flc.reads cs k)

  -- and the text is not too long and "a column limit from 1 to 1,000".
  abbrev LimitGood : Type 0
  LimitGood = (length text ≤ max_text) × (1 ≤ limit) × (limit ≤ max_line_width)

  -- "A single character other than a blank wider than the limit", "after mapping and stand-in".
  abbrev WiderAt : List Entry → List Command → ℕ → ℕ → Type 0
  WiderAt es cs k p = (p < length text) × (in_word (get_or text p 0) ≡ true) × (limit < choice_width (byte_choice (font_source s es) cs k (get_or text p 0)))

  -- The lines, and "the drawings of the lines follow one another, each in its own width".
  abbrev lines_for : Header → List Entry → List Command → ℕ → List Span
  lines_for h es cs k = spans_of (wide_in (font_line s h es cs k) text) limit text

  abbrev drawings_for : Header → List Entry → List Command → ℕ → List ℕ
  drawings_for h es cs k = drawings h.hardblank.0 h.height (font_line s h es cs k) text (lines_for h es cs k)

  abbrev wrap_drawn : Wrap
  wrap_drawn = draw_wrapped firstRoom endRoom size s control limit text

  abbrev Wraps : WrapAnswer → Type 0
  Wraps a = wrap_answer (wrap_in room wrap_drawn) ≡ a

  font_refusals_of_draw_wrapped : (r : Refusal) → number_of r.reason ≤ number_of too_many_characters → Wraps (wrap-is.Refused r) ↔ (ListsEnough × (reading s ≡ refuses r))
  font_refusals_of_draw_wrapped = wrap-rows.row_font firstRoom endRoom size s control limit text room

  control_refusals_of_draw_wrapped : (r : Refusal) → number_of control_file_too_long ≤ number_of r.reason → number_of r.reason ≤ number_of too_many_commands →
      Wraps (wrap-is.Refused r) ↔ (ListsEnough × (h : Header) × (es : List Entry) × (reading s ≡ says h es) × (flc.control control ≡ flc.refuses r))
  control_refusals_of_draw_wrapped = wrap-rows.row-control firstRoom endRoom size s control limit text room

  -- 9, at 0: "room for under 1,024 lines is 9, first", and the scratch; or else, behind all others, the output.
  refusal_9_of_draw_wrapped : (p : ℕ) →
      Wraps (wrap-is.Refused (refusal area_too_small p)) ↔
      ((p ≡ 0) ×
      (((firstRoom < min_lines) ⊎ ((endRoom < min_lines) ⊎ (size < min_scratch))) ⊎
      ((h : Header) × (es : List Entry) × (cs : List Command) × (k : ℕ) × (LineFilesSay h es cs k) × LimitGood × ((q : ℕ) → WiderAt es cs k q → ⊥) ×
      (room < length (drawings_for h es cs k)))))
  refusal_9_of_draw_wrapped = wrap-rows.row_9 firstRoom endRoom size s control limit text room

  refusal_15_of_draw_wrapped : (p : ℕ) →
      Wraps (wrap-is.Refused (refusal text_too_long p)) ↔
      ((p ≡ 0) × (h : Header) × (es : List Entry) × (cs : List Command) × (k : ℕ) × (LineFilesSay h es cs k) × (max_text < length text))
  refusal_15_of_draw_wrapped = wrap-rows.row_15 firstRoom endRoom size s control limit text room

  -- "17 for a limit out of range, after 15,
  refusal_17_of_draw_wrapped : (p : ℕ) →
      Wraps (wrap-is.Refused (refusal bad_shape p)) ↔
      ((p ≡ 0) × (h : Header) × (es : List Entry) × (cs : List Command) × (k : ℕ) × (LineFilesSay h es cs k) × (length text ≤ max_text) × ((limit < 1) ⊎ (max_line_width < limit)))
  refusal_17_of_draw_wrapped = wrap-rows.row_17 firstRoom endRoom size s control limit text room

  -- then 19, a single character other than a blank wider than the limit, with the place in the text of the first such one."
  refusal_19_of_draw_wrapped : (p : ℕ) →
      Wraps (wrap-is.Refused (refusal character_too_wide p)) ↔
      ((h : Header) × (es : List Entry) × (cs : List Command) × (k : ℕ) × (LineFilesSay h es cs k) × LimitGood × (WiderAt es cs k p × ((q : ℕ) → q < p → WiderAt es cs k q → ⊥)))
  refusal_19_of_draw_wrapped = wrap-rows.row_19 firstRoom endRoom size s control limit text room

  -- "16 is not given by this call."
  no_refusal_16_of_draw_wrapped : (p : ℕ) → Wraps (wrap-is.Refused (refusal line_too_wide p)) → ⊥
  no_refusal_16_of_draw_wrapped p e = wrap-answers.never_16 firstRoom endRoom size s control limit text room (rw e refl)

  -- Otherwise "how many lines, and Q-2's two counts of the whole text".
  wraps_otherwise : (n : ℕ) (counts : Counts) →
      Wraps (wrap-is.Wrapped n counts) ↔
      ((h : Header) × (es : List Entry) × (cs : List Command) × (k : ℕ) × (LineFilesSay h es cs k) × LimitGood × ((q : ℕ) → WiderAt es cs k q → ⊥) ×
      (length (drawings_for h es cs k) ≤ room) × (n ≡ length (lines_for h es cs k)) × (counts ≡ font_counts s es cs k text))
  wraps_otherwise = wrap-rows.row-wrapped firstRoom endRoom size s control limit text room

  -- "A refusal fills every lent writable area with zeros"; the scratch is zeros after every answer by the call's contract.
  draw_wrapped_wiped : (r : Refusal) → Wraps (wrap-is.Refused r) → (wrap_firsts wrap_drawn room firstRoom ≡ zeros firstRoom) × (wrap_ends wrap_drawn room endRoom ≡ zeros endRoom) × (wrap_output wrap_drawn room ≡ zeros room)
  draw_wrapped_wiped = wiping.wrap_wiped wrap_drawn firstRoom endRoom room

-- The lines of a text, whatever gives the characters, by any control file, where 19 is not given.
module _ (y : Mode) (h : ℕ) (source : Source) (cs : List Command) (k limit : ℕ) (text : List ℕ)
    (none : (p : ℕ) → (p < length text) × (in_word (get_or text p 0) ≡ true) × (limit < choice_width (byte_choice source cs k (get_or text p 0))) → ⊥) where
  -- "A line is the part of the text from its first word's first byte to the end of its last; its characters are drawn as a text of their own."
  abbrev line_of_part : ℕ → ℕ → Block
  line_of_part b e = line_of y h source (text_codes cs k (take (e - b) (drop b text)))

  abbrev wide : ℕ → ℕ → ℕ
  wide b e = (line_of_part b e).width

  abbrev text_lines : List Span
  text_lines = spans_of wide limit text

  abbrev drawn : List Span → List ℕ
  drawn = drawings y.hardblank.0 h (λ t. line_of y h source (text_codes cs k t)) text

  abbrev narrow : length text ≤ first_wider source cs k limit text
  narrow = wrap-rows.wider-none source cs k limit text none

  -- Of each line:
  module _ (before behind : List Span) (x : Span) (is : text_lines ≡ before ++ (x ∷ behind)) where
    abbrev this : text-lines.TextLine y h source cs k limit text narrow x.first x.behind
    this = text-lines.line_at y h source cs k limit text narrow before x behind is

    -- "each line's first byte and the place behind its last" are those of bytes in words,
    line_starts_with_a_word : in_word (get_or text x.first 0) ≡ true
    line_starts_with_a_word = this.starts

    line_ends_with_a_word : (x.first < x.behind) × (x.behind ≤ length text) × (in_word (get_or text (x.behind - 1) 0) ≡ true)
    line_ends_with_a_word = (this.longer, this.within, this.ends)

    -- its "drawing is at most the limit wide",
    line_at_most_the_limit : wide x.first x.behind ≤ limit
    line_at_most_the_limit = this.at_most_limit

    -- it "takes the most words whose drawing, with the blanks between them, fits": it ends with a word, and up to the end of any further one it would be too wide,
    line_takes_the_most_words : wide x.first (word_behind text x.first) ≤ limit → (ends_word text x.behind ≡ true) × ((e : ℕ) → x.behind < e → e ≤ length text → ends_word text e ≡ true → limit < wide x.first e)
    line_takes_the_most_words = this.most_words

    -- "a first word that does not fit is broken after the most characters that fit",
    line_breaks_a_word : limit < wide x.first (word_behind text x.first) → (x.behind < word_behind text x.first) × ((e : ℕ) → x.behind < e → e ≤ word_behind text x.first → limit < wide x.first e)
    line_breaks_a_word = this.broken

    -- and "the drawings of the lines follow one another, each in its own width".
    drawings_follow : drawn text_lines ≡ drawn before ++ (shown y.hardblank.0 h (line_of_part x.first x.behind) ++ drawn behind)
    drawings_follow = text-lines.follow_one_another y h source cs k limit text narrow before x behind is

  -- "Its rest is the next line's first word": from a byte of a word on, the next line starts there.
  rest_is_next : (p : ℕ) → p < length text → in_word (get_or text p 0) ≡ true → spans_from wide limit text p ≡ span p (span_end wide limit text p) ∷ spans_from wide limit text (span_end wide limit text p)
  rest_is_next = text-lines.rest_next y h source cs k limit text narrow

  -- The lines stand in the order of the text, and there are no more than bytes,
  lines_in_order : breaks.InOrder 0 text_lines × (length text_lines ≤ length text)
  lines_in_order = (text-lines.in_order y h source cs k limit text narrow, text-lines.at_most y h source cs k limit text narrow)

  -- "blanks at a break and at either end of the text are not drawn": what stands in no line is blank,
  blanks_in_no_line : breaks.Apart text 0 text_lines
  blanks_in_no_line = text-lines.blanks_apart y h source cs k limit text narrow

  -- and nothing is lost or drawn twice: the lines' parts in order, with the blanks around them, are the text.
  nothing_lost : text-lines.pieces text 0 text_lines ≡ text
  nothing_lost = text-lines.all_of_text y h source cs k limit text narrow

  -- "A text without words has no lines."
  no_words_no_lines : ((p : ℕ) → p < length text → is_break (get_or text p 0) ≡ true) → text_lines ≡ []
  no_words_no_lines = text-lines.no_lines y h source cs k limit text narrow

  -- A text that fits is one line, and its drawing is that of the text without the blanks at its ends.
  fitting_text_is_one_line : 0 < last_behind text → wide (word_from text 0) (last_behind text) ≤ limit →
      (text_lines ≡ span (word_from text 0) (last_behind text) ∷ []) × (drawn text_lines ≡ shown y.hardblank.0 h (line_of_part (word_from text 0) (last_behind text)))
  fitting_text_is_one_line = text-lines.one_line_drawn y h source cs k limit text narrow

-- ================================================================ document 02, Q-5

-- "A constant table of 256 entries: sixteen kinds .. by sixteen, each entry the sum of the rules joining that pair": of any two sub-characters but blanks, whatever the hardblank,
module _ (hardblank left right : ℕ) (left-seen : left ≡ blank → ⊥) (right-seen : right ≡ blank → ⊥) where
  table_says_the_rules : (kind_of hardblank right ≡ 14 → left ≡ right) → rule_entry (kind_of hardblank left) (kind_of hardblank right) ≡ rules_joining hardblank left right
  table_says_the_rules = pair-table.pair_entry hardblank left right left-seen right-seen

  -- and "equality of two \"other\" bytes is still tested beside it": unequal ones are joined by no rule.
  others_that_differ : kind_of hardblank right ≡ 14 → (left ≡ right → ⊥) → 0 ≡ rules_joining hardblank left right
  others_that_differ = pair-table.pair_apart hardblank left right left-seen right-seen

-- ================================================================ document 02, Q-6

-- A pack that check accepts, its bytes s, says a head and records; a change was done, and its bytes are `new`.
module _ (s new : List ℕ) (f : Head) (rs : List (List ℕ)) (accepted : heads.meaning s ≡ heads.says f rs) where
  abbrev Removed : ℕ → Type 0
  Removed code = calls.Changes (calls.removal (heads.meaning s) code) s (Ok tt) new

  abbrev Put : ℕ → ℕ → List ℕ → Type 0
  Put code width rows = calls.Changes (calls.insertion (heads.meaning s) (length s) code width rows) s (Ok tt) new

  abbrev Compacted : Type 0
  Compacted = calls.Changes (calls.compaction (heads.meaning s)) s (Ok tt) new

  -- "Each change leaves a pack that check accepts": it says the records as they then are.
  remove_leaves_a_pack : (code : ℕ) → Removed code → heads.meaning new ≡ heads.says f (edits.removed code rs)
  remove_leaves_a_pack = outcomes.remove_outcome s new f rs accepted

  put_leaves_a_pack : (code width : ℕ) (rows : List ℕ) → code < 4294967296 → Put code width rows → heads.meaning new ≡ heads.says f (edits.placed f width (edits.new_record f.version code width rows) rs)
  put_leaves_a_pack = outcomes.put_outcome s new f rs accepted

  -- "Compact drops free records, keeps the live ones in order."
  compact_leaves_the_live : Compacted → heads.meaning new ≡ heads.says f (edits.kept rs)
  compact_leaves_the_live = outcomes.compact_outcome s new f rs accepted

  -- Check accepts it, with the same height and the live records that it then has.
  check_accepts_after_remove : (code : ℕ) → Removed code → calls.check_told (heads.meaning new) ≡ Ok (record { height = f.height; live = live_count (edits.removed code rs) })
  check_accepts_after_remove code x = outcomes.check_accepts new f _ (remove_leaves_a_pack code x)

  check_accepts_after_put : (code width : ℕ) (rows : List ℕ) → code < 4294967296 → Put code width rows → calls.check_told (heads.meaning new) ≡ Ok (record { height = f.height; live = live_count (edits.placed f width (edits.new_record f.version code width rows) rs) })
  check_accepts_after_put code width rows c x = outcomes.check_accepts new f _ (put_leaves_a_pack code width rows c x)

  check_accepts_after_compact : Compacted → calls.check_told (heads.meaning new) ≡ Ok (record { height = f.height; live = live_count (edits.kept rs) })
  check_accepts_after_compact x = outcomes.check_accepts new f _ (compact_leaves_the_live x)

  -- "Find after put, remove and compact (the code itself, and every other code: same width and rows)."
  removed_is_gone : (code : ℕ) → Removed code → calls.letter_found new code ≡ no_letter
  removed_is_gone = outcomes.remove_itself s new f rs accepted

  remove_keeps_others : (code d : ℕ) → (d ≡ code → ⊥) → Removed code → calls.letter_found new d ≡ calls.letter_found s d
  remove_keeps_others = outcomes.remove_others s new f rs accepted

  put_is_found : (code width : ℕ) (rows : List ℕ) → code < 4294967296 → Put code width rows → calls.letter_found new code ≡ letter width rows
  put_is_found = outcomes.put_itself s new f rs accepted

  put_keeps_others : (code width : ℕ) (rows : List ℕ) → code < 4294967296 → Put code width rows → (d : ℕ) → (d ≡ code → ⊥) → calls.letter_found new d ≡ calls.letter_found s d
  put_keeps_others = outcomes.put_others s new f rs accepted

  compact_keeps_all : (d : ℕ) → Compacted → calls.letter_found new d ≡ calls.letter_found s d
  compact_keeps_all = outcomes.compact_every s new f rs accepted

  -- "Remove changes only the 1 to 2."
  remove_changes_one_byte : (code : ℕ) → Removed code → outcomes.OneByte s new f rs accepted
  remove_changes_one_byte = outcomes.remove_one_byte s new f rs accepted

  -- Put changes only the record that it writes.
  put_writes_one_record : (code width : ℕ) (rows : List ℕ) → Put code width rows → outcomes.Written s new f rs accepted (edits.new_record f.version code width rows)
  put_writes_one_record = outcomes.put_written s new f rs accepted

  -- No call changes the pack's length.
  remove_keeps_the_length : (code : ℕ) → Removed code → length new ≡ length s
  remove_keeps_the_length = outcomes.remove_length s new f rs accepted

  put_keeps_the_length : (code width : ℕ) (rows : List ℕ) → Put code width rows → length new ≡ length s
  put_keeps_the_length = outcomes.put_length s new f rs accepted

  compact_keeps_the_length : Compacted → length new ≡ length s
  compact_keeps_the_length = outcomes.compact_length s new f rs accepted

-- "A refusal leaves a pack's bytes as they were lent", whatever change was asked.
refusal_keeps_the_pack : (x : calls.Change) (s new : List ℕ) (r : Refusal) → calls.Changes x s (Err r) new → new ≡ s
refusal_keeps_the_pack = outcomes.refusal_keeps

-- "It has no room exactly when neither exists": of a good letter whose code is absent, 23 is given exactly when there is no free record of its width and the tail is too short.
module _ (s : List ℕ) (f : Head) (rs : List (List ℕ)) (accepted : heads.meaning s ≡ heads.says f rs) (code width : ℕ) (rows : List ℕ) (good : calls.good_letter f code width rows ≡ true) (absent : has_live code rs ≡ false) where
  no_room_is_23 : calls.has_room f (length s) width rs ≡ false → calls.insertion (heads.meaning s) (length s) code width rows ≡ calls.refused no_room
  no_room_is_23 = outcomes.no_room_lem s f rs accepted code width rows good absent

  room_is_taken : calls.has_room f (length s) width rs ≡ true → calls.insertion (heads.meaning s) (length s) code width rows ≡ calls.changed (edits.placed f width (edits.new_record f.version code width rows) rs)
  room_is_taken = outcomes.room s f rs accepted code width rows good absent

-- "Damaged is whatever breaks this layout, a longer buffer, a repeated live code, code -1, a width over 199, a Height, hardblank or row byte that 01 refuses." Of a buffer s:
module _ (s : List ℕ) where
  -- What its first bytes say as a head, and the bytes behind it.
  abbrev head_said : Head
  head_said = heads.head_in s

  abbrev record_bytes : List ℕ
  record_bytes = drop (head_length head_said.version) s

  -- Where a record is due there stands no good one: it is "cut off by the buffer's end", begins with neither 1 nor 2, has code -1, a width over 199 or a row byte that is refused.
  abbrev RecordBad : List ℕ → Type 0
  RecordBad t =
      (length t < record_head_length head_said.version) ⊎
      (((get_or t 0 0 ≡ liveByte → ⊥) × (get_or t 0 0 ≡ freeByte → ⊥)) ⊎ (code_in t ≡ minus_one) ⊎ (max_width head_said.version < width_in head_said t)) ⊎
      (length t < size_in head_said t) ⊎
      (all (legal_byte head_said.hardblank.0) (rows_in head_said t) ≡ false)

  -- The bytes behind some good records are not all zero and begin with no good one.
  abbrev RecordsBroken : Type 0
  RecordsBroken = (t : List ℕ) × damage.Behind head_said record_bytes t × (all is_zero t ≡ false) × RecordBad t

  damaged_exactly_when :
      heads.meaning s ≡ heads.damaged ↔
      ((max_pack_length < length s) ⊎
      (length s < min_pack_length) ⊎
      (heads.is_mark (take min_pack_length s) ≡ false) ⊎
      ((heads.is_version head_said.version ≡ false) ⊎ (head_said.height < 1) ⊎ (max_height < head_said.height) ⊎ (legal_hardblank head_said.hardblank.0 ≡ false)) ⊎
      (length s < head_length head_said.version) ⊎
      RecordsBroken ⊎
      (none_twice (record_list head_said record_bytes).records ≡ false))
  damaged_exactly_when = damage.damaged_when s

  -- Check: "20 damaged pack", at 0, and no other refusal; otherwise "height and how many live records".
  refusals_of_pack_check : (r : Refusal) → calls.check_told (heads.meaning s) ≡ Err r ↔ ((r.reason ≡ damaged_pack) × (r.place ≡ 0) × (heads.meaning s ≡ heads.damaged))
  refusals_of_pack_check = pack-rows.check_row s

  pack_check_otherwise : (h n : ℕ) → calls.check_told (heads.meaning s) ≡ Ok (record { height = h; live = n }) ↔ ((f : Head) × (rs : List (List ℕ)) × (heads.meaning s ≡ heads.says f rs) × (h ≡ f.height) × (n ≡ live_count rs))
  pack_check_otherwise = pack-rows.check_accepted s

  -- Compact: 20, at 0, and no other.
  refusals_of_pack_compact : (r : Refusal) → calls.tells (calls.compaction (heads.meaning s)) ≡ Err r ↔ ((r.reason ≡ damaged_pack) × (r.place ≡ 0) × (heads.meaning s ≡ heads.damaged))
  refusals_of_pack_compact = pack-rows.compact_row s

  pack_compact_otherwise : calls.tells (calls.compaction (heads.meaning s)) ≡ (Ok tt) ↔ ((f : Head) × (rs : List (List ℕ)) × (heads.meaning s ≡ heads.says f rs))
  pack_compact_otherwise = pack-rows.compact_done s

  -- Find and remove: "20, 17 (code -1), 22", each at 0.
  module _ (code : ℕ) where
    abbrev Finds : Result Found Refusal → Type 0
    Finds a = calls.find_told (heads.meaning s) code ≡ a

    refusal_20_of_pack_find : (p : ℕ) → Finds (Err (refusal damaged_pack p)) ↔ ((p ≡ 0) × (heads.meaning s ≡ heads.damaged))
    refusal_20_of_pack_find = pack-rows.find_20 s code

    refusal_17_of_pack_find : (p : ℕ) → Finds (Err (refusal bad_shape p)) ↔ ((p ≡ 0) × ((f : Head) × (rs : List (List ℕ)) × (heads.meaning s ≡ heads.says f rs) × (code ≡ minus_one)))
    refusal_17_of_pack_find = pack-rows.find_17 s code

    refusal_22_of_pack_find : (p : ℕ) → Finds (Err (refusal code_absent p)) ↔ ((p ≡ 0) × ((f : Head) × (rs : List (List ℕ)) × (heads.meaning s ≡ heads.says f rs) × (code ≡ minus_one → ⊥) × (has_live code rs ≡ false)))
    refusal_22_of_pack_find = pack-rows.find_22 s code

    -- Otherwise the place of the rows of its live record, and the width.
    pack_find_otherwise : (p w : ℕ) →
        Finds (Ok (record { place = p; width = w })) ↔
        ((f : Head) × (rs : List (List ℕ)) × ((heads.meaning s ≡ heads.says f rs) × (code ≡ minus_one → ⊥) × (has_live code rs ≡ true)) × (at : ℕ) ×
        (place_in f code (head_length f.version) rs ≡ Some (record { at = at; width = w })) × (p ≡ at + record_head_length f.version))
    pack_find_otherwise = pack-rows.find_found s code

    abbrev Removes : Result Unit Refusal → Type 0
    Removes a = calls.tells (calls.removal (heads.meaning s) code) ≡ a

    refusal_20_of_pack_remove : (p : ℕ) → Removes (Err (refusal damaged_pack p)) ↔ ((p ≡ 0) × (heads.meaning s ≡ heads.damaged))
    refusal_20_of_pack_remove = pack-rows.remove_20 s code

    refusal_17_of_pack_remove : (p : ℕ) → Removes (Err (refusal bad_shape p)) ↔ ((p ≡ 0) × ((f : Head) × (rs : List (List ℕ)) × (heads.meaning s ≡ heads.says f rs) × (code ≡ minus_one)))
    refusal_17_of_pack_remove = pack-rows.remove_17 s code

    refusal_22_of_pack_remove : (p : ℕ) → Removes (Err (refusal code_absent p)) ↔ ((p ≡ 0) × ((f : Head) × (rs : List (List ℕ)) × (heads.meaning s ≡ heads.says f rs) × (code ≡ minus_one → ⊥) × (has_live code rs ≡ false)))
    refusal_22_of_pack_remove = pack-rows.remove_22 s code

    pack_remove_otherwise : Removes (Ok tt) ↔ ((f : Head) × (rs : List (List ℕ)) × ((heads.meaning s ≡ heads.says f rs) × (code ≡ minus_one → ⊥) × (has_live code rs ≡ true)))
    pack_remove_otherwise = pack-rows.remove_done s code

  -- Put: 20, 17, 21, 23, each at 0.
  module _ (code width : ℕ) (rows : List ℕ) where
    abbrev Puts : Result Unit Refusal → Type 0
    Puts a = calls.tells (calls.insertion (heads.meaning s) (length s) code width rows) ≡ a

    -- "17 for .. code -1 or a letter of such a width or row byte or not Height times width long".
    abbrev LetterBad : Head → Type 0
    LetterBad f = (code ≡ minus_one) ⊎ (max_width f.version < width) ⊎ (all (legal_byte f.hardblank.0) rows ≡ false) ⊎ (length rows ≡ f.height * width → ⊥)

    -- Where the record would end behind the last one.
    abbrev end_behind : Head → List (List ℕ) → ℕ
    end_behind f rs = head_length f.version + length (joined rs) + (record_head_length f.version + f.height * width)

    refusal_20_of_pack_put : (p : ℕ) → Puts (Err (refusal damaged_pack p)) ↔ ((p ≡ 0) × (heads.meaning s ≡ heads.damaged))
    refusal_20_of_pack_put = pack-rows.put_20 s code width rows

    refusal_17_of_pack_put : (p : ℕ) → Puts (Err (refusal bad_shape p)) ↔ ((p ≡ 0) × ((f : Head) × (rs : List (List ℕ)) × (heads.meaning s ≡ heads.says f rs) × LetterBad f))
    refusal_17_of_pack_put = pack-rows.put_17 s code width rows

    refusal_21_of_pack_put : (p : ℕ) → Puts (Err (refusal code_present p)) ↔ ((p ≡ 0) × ((f : Head) × (rs : List (List ℕ)) × (heads.meaning s ≡ heads.says f rs) × (LetterBad f → ⊥) × (has_live code rs ≡ true)))
    refusal_21_of_pack_put = pack-rows.put_21 s code width rows

    -- "It has no room exactly when neither exists": a free record of the width, or a tail that the record fits.
    refusal_23_of_pack_put : (p : ℕ) →
        Puts (Err (refusal no_room p)) ↔
        ((p ≡ 0) × ((f : Head) × (rs : List (List ℕ)) × (heads.meaning s ≡ heads.says f rs) × (LetterBad f → ⊥) × (has_live code rs ≡ false) × ((edits.has_free f width rs ≡ false) × (length s < end_behind f rs))))
    refusal_23_of_pack_put = pack-rows.put_23 s code width rows

    pack_put_otherwise :
        Puts (Ok tt) ↔
        ((f : Head) × (rs : List (List ℕ)) × (heads.meaning s ≡ heads.says f rs) × (LetterBad f → ⊥) × (has_live code rs ≡ false) × ((edits.has_free f width rs ≡ true) ⊎ (end_behind f rs ≤ length s)))
    pack_put_otherwise = pack-rows.put_done s code width rows

-- "After it put has room whenever the record fits behind them", and only then.
room_after_compact : (f : Head) (size width : ℕ) (rs : List (List ℕ)) → calls.has_room f size width (edits.kept rs) ≡ leb (head_length f.version + length (joined (edits.kept rs)) + (record_head_length f.version + f.height * width)) size
room_after_compact = pack-laws.compact_room

-- "Drawing from a pack takes layout and direction with the call; with a font's own it equals drawing from that font": the answer and the bytes, for every control file and text and for areas of every size.
module _ (s : List ℕ) (h : Header) (es : List Entry) (font_read : font.reading s ≡ font.says h es) (t : List ℕ) (f : Head) (rs : List (List ℕ)) (accepted : heads.meaning t ≡ heads.says f rs) (made : MadeOf s h es f rs) where
  pack_draws_as_its_font : (scratch : ℕ) (control text : List ℕ) (room : ℕ) →
      (lined_answer (draw_lined scratch s control text) room ≡ lined_answer (pack_lined scratch t h.layout (direction_of h.print_direction) control text) room) ×
      (bytes_of (draw_lined scratch s control text) room ≡ bytes_of (pack_lined scratch t h.layout (direction_of h.print_direction) control text) room)
  pack_draws_as_its_font = font-pack.font_and_pack s h es font_read t f rs accepted made

-- Drawing from a pack t: "9 (scratch), 20, 17 (layout of bad shape), the control file's, 15, .. 16, 9 (out)".
module _ (size : ℕ) (t : List ℕ) (layout : Layout) (direction : Direction) (control text : List ℕ) (room : ℕ) where
  -- "17 for a layout of bad shape": "rules outside 1 to 63 in controlled mode".
  abbrev LayoutBad : Type 0
  LayoutBad = (rules : ℕ) × (layout ≡ Smushing (Controlled rules)) × ((rules < 1) ⊎ (max_rules < rules))

  -- The scratch is large enough, the pack says this, and the layout is of good shape;
  abbrev PackSays : Head → List (List ℕ) → Type 0
  PackSays f rs = (min_scratch ≤ size) × (heads.meaning t ≡ heads.says f rs) × (LayoutBad → ⊥)

  -- and the control file says this.
  abbrev PackFilesSay : Head → List (List ℕ) → List Command → ℕ → Type 0
  PackFilesSay f rs cs k = PackSays f rs × (flc.control control ≡ flc.reads cs k)

  -- The line of the text by what they say.
  abbrev pack_line_for : Head → List (List ℕ) → List Command → ℕ → Block
  pack_line_for f rs cs k = line_of (pack_mode f layout direction) f.height (pack_source f rs) (text_codes cs k text)

  abbrev pack_drawn : Lined
  pack_drawn = pack_lined size t layout direction control text

  abbrev PackDraws : DrawAnswer → Type 0
  PackDraws a = lined_answer pack_drawn room ≡ a

  refusal_20_of_draw_pack : (p : ℕ) → PackDraws (draw-is.Refused (refusal damaged_pack p)) ↔ ((p ≡ 0) × (min_scratch ≤ size) × (heads.meaning t ≡ heads.damaged))
  refusal_20_of_draw_pack = pack-drawing.row_20 size t layout direction control text room

  refusal_17_of_draw_pack : (p : ℕ) → PackDraws (draw-is.Refused (refusal bad_shape p)) ↔ ((p ≡ 0) × (min_scratch ≤ size) × (f : Head) × (rs : List (List ℕ)) × (heads.meaning t ≡ heads.says f rs) × LayoutBad)
  refusal_17_of_draw_pack = pack-drawing.row_17 size t layout direction control text room

  control_refusals_of_draw_pack : (r : Refusal) → number_of control_file_too_long ≤ number_of r.reason → number_of r.reason ≤ number_of too_many_commands →
      PackDraws (draw-is.Refused r) ↔ ((f : Head) × (rs : List (List ℕ)) × PackSays f rs × (flc.control control ≡ flc.refuses r))
  control_refusals_of_draw_pack = pack-drawing.row-control size t layout direction control text room

  refusal_15_of_draw_pack : (p : ℕ) →
      PackDraws (draw-is.Refused (refusal text_too_long p)) ↔
      ((p ≡ 0) × (f : Head) × (rs : List (List ℕ)) × (cs : List Command) × (k : ℕ) × (PackFilesSay f rs cs k) × (max_text < length text))
  refusal_15_of_draw_pack = pack-drawing.row_15 size t layout direction control text room

  refusal_16_of_draw_pack : (p : ℕ) →
      PackDraws (draw-is.Refused (refusal line_too_wide p)) ↔
      ((p ≡ 0) × (f : Head) × (rs : List (List ℕ)) × (cs : List Command) × (k : ℕ) × (PackFilesSay f rs cs k) × (length text ≤ max_text) × (max_line_width < (pack_line_for f rs cs k).width))
  refusal_16_of_draw_pack = pack-drawing.row_16 size t layout direction control text room

  -- 9: the scratch, or else, behind all others, the output, Height rows of the width and an LF each.
  refusal_9_of_draw_pack : (p : ℕ) →
      PackDraws (draw-is.Refused (refusal area_too_small p)) ↔
      ((p ≡ 0) ×
      ((size < min_scratch) ⊎
      ((f : Head) × (rs : List (List ℕ)) × (cs : List Command) × (k : ℕ) × (PackFilesSay f rs cs k) ×
      (length text ≤ max_text) × ((pack_line_for f rs cs k).width ≤ max_line_width) × (room < f.height * ((pack_line_for f rs cs k).width + 1)))))
  refusal_9_of_draw_pack = pack-drawing.row_9 size t layout direction control text room

  -- Otherwise the width, and 02, Q-2, the counts of the text.
  draw_pack_otherwise : (w : ℕ) (n : Counts) →
      PackDraws (draw-is.Drawn w n) ↔
      ((f : Head) × (rs : List (List ℕ)) × (cs : List Command) × (k : ℕ) × (PackFilesSay f rs cs k) × (length text ≤ max_text) × ((pack_line_for f rs cs k).width ≤ max_line_width) ×
      (f.height * ((pack_line_for f rs cs k).width + 1) ≤ room) × (w ≡ (pack_line_for f rs cs k).width) × (n ≡ counts_of (pack_source f rs) (text_codes cs k text)))
  draw_pack_otherwise = pack-drawing.row_drawn size t layout direction control text room

  -- "A refusal fills every lent writable area with zeros"; the scratch is zeros after every answer by the call's contract.
  draw_pack_wiped : (r : Refusal) → PackDraws (draw-is.Refused r) → padded (bytes_of pack_drawn room) room ≡ zeros room
  draw_pack_wiped = wiping.lined_wiped pack_drawn room

-- ================================================================ document 02, Q-7

-- "A code missing from the first is sought in the second before any stand-in, then code 0 in the first, then in the second": each try is used exactly if none before it is there. The
-- characters of the first font are es, those of the second fs.
module _ (c : Code) (es fs : List Entry) where
  code_in_the_first : (e : Entry) → looked_up_in_two c es fs ≡ in_two.Found which-is.First e ↔ (last_of c.0 es ≡ Some e)
  code_in_the_first = two-fonts.first_try_lem c es fs

  code_in_the_second : (e : Entry) → looked_up_in_two c es fs ≡ in_two.Found which-is.Second e ↔ ((last_of c.0 es ≡ None) × (last_of c.0 fs ≡ Some e))
  code_in_the_second = two-fonts.second_try c es fs

  code_0_in_the_first : (e : Entry) → looked_up_in_two c es fs ≡ in_two.StoodIn which-is.First e ↔ ((last_of c.0 es ≡ None) × (last_of c.0 fs ≡ None) × (last_of (pos 0) es ≡ Some e))
  code_0_in_the_first = two-fonts.third_try c es fs

  code_0_in_the_second : (e : Entry) →
      looked_up_in_two c es fs ≡ in_two.StoodIn which-is.Second e ↔ ((last_of c.0 es ≡ None) × (last_of c.0 fs ≡ None) × (last_of (pos 0) es ≡ None) × (last_of (pos 0) fs ≡ Some e))
  code_0_in_the_second = two-fonts.fourth_try c es fs

  neither_font_has_any :
      looked_up_in_two c es fs ≡ in_two.Nothing ↔ ((last_of c.0 es ≡ None) × (last_of c.0 fs ≡ None) × (last_of (pos 0) es ≡ None) × (last_of (pos 0) fs ≡ None))
  neither_font_has_any = two-fonts.no_try c es fs

-- "24, heights or hardblanks differ."
fonts_differ_lem : (h k : Header) → alike h k ≡ false ↔ (((h.height ≡ k.height) → ⊥) ⊎ ((h.hardblank.0 ≡ k.hardblank.0) → ⊥))
fonts_differ_lem = two-fonts.differ_exactly

-- The row request of two fonts, whose bytes are s and t: what it answers, exactly when.
module _ (s t : List ℕ) (c : Code) (r : ℕ) where
  font_refusals_of_row_of_two : (q : Refusal) → number_of q.reason ≤ number_of too_many_characters →
      row_of_two s t c r ≡ two-row-is.Refused q ↔ ((reading s ≡ refuses q) ⊎ ((h : Header) × (es : List Entry) × (reading s ≡ says h es) × (reading t ≡ refuses q)))
  font_refusals_of_row_of_two = two-requests.row-fonts s t c r

  refusal_24_of_row_of_two : (p : ℕ) →
      row_of_two s t c r ≡ two-row-is.Refused (refusal fonts_differ p) ↔
      ((p ≡ 0) × (h : Header) × (k : Header) × (es : List Entry) × (fs : List Entry) × (reading s ≡ says h es) × (reading t ≡ says k fs) × (alike h k ≡ false))
  refusal_24_of_row_of_two = two-requests.row_24 s t c r

  -- 17: both fonts are read and alike, and the row number is at or above Height or neither font has a character or a stand-in.
  refusal_17_of_row_of_two : (p : ℕ) → row_of_two s t c r ≡ two-row-is.Refused (refusal bad_shape p) ↔ ((p ≡ 0) × NoRow s t c r)
  refusal_17_of_row_of_two = two-requests.row_17 s t c r

  -- "The row handed back is a part of whichever font had it": of the character that the look-up came to, in that font, and within its bytes.
  row_of_whichever_font : (w : Which) (p n : ℕ) → row_of_two s t c r ≡ two-row-is.Row w p n ↔ GivenOfTwo s t c r w p n
  row_of_whichever_font = two-requests.row-given s t c r

  row_within_its_font : (w : Which) (p n : ℕ) → row_of_two s t c r ≡ two-row-is.Row w p n → p + n ≤ length (bytes_in w s t)
  row_within_its_font = two-rows.row_fits s t c r

-- A drawing by two fonts: what it answers, exactly when. "Layout and direction are the first font's", whose header is h.
module _ (size : ℕ) (s t control text : List ℕ) (room : ℕ) where
  abbrev two_drawn : Lined
  two_drawn = two_lined size s t control text

  abbrev TwoDraws : DrawAnswer → Type 0
  TwoDraws a = lined_answer two_drawn room ≡ a

  abbrev TwoFilesSay : Header → List Entry → List Entry → List Command → ℕ → Type 0
  TwoFilesSay h es fs cs k = (min_scratch ≤ size) × BothSay s t h es fs × (flc.control control ≡ flc.reads cs k)

  abbrev two_line_for : Header → List Entry → List Entry → List Command → ℕ → Block
  two_line_for h es fs cs k = line_of (mode_of h) h.height (two_source s t es fs) (text_codes cs k text)

  font_refusals_of_draw_two : (r : Refusal) → number_of r.reason ≤ number_of too_many_characters →
      TwoDraws (draw-is.Refused r) ↔ ((min_scratch ≤ size) × ((reading s ≡ refuses r) ⊎ ((h : Header) × (es : List Entry) × (reading s ≡ says h es) × (reading t ≡ refuses r))))
  font_refusals_of_draw_two = two-drawing.row-fonts size s t control text room

  refusal_24_of_draw_two : (p : ℕ) →
      TwoDraws (draw-is.Refused (refusal fonts_differ p)) ↔
      ((p ≡ 0) × (min_scratch ≤ size) × (h : Header) × (k : Header) × (es : List Entry) × (fs : List Entry) × (reading s ≡ says h es) × (reading t ≡ says k fs) × (alike h k ≡ false))
  refusal_24_of_draw_two = two-drawing.row_24 size s t control text room

  control_refusals_of_draw_two : (r : Refusal) → number_of control_file_too_long ≤ number_of r.reason → number_of r.reason ≤ number_of too_many_commands →
      TwoDraws (draw-is.Refused r) ↔ ((min_scratch ≤ size) × (h : Header) × (es : List Entry) × (fs : List Entry) × BothSay s t h es fs × (flc.control control ≡ flc.refuses r))
  control_refusals_of_draw_two = two-drawing.row-control size s t control text room

  refusal_15_of_draw_two : (p : ℕ) →
      TwoDraws (draw-is.Refused (refusal text_too_long p)) ↔
      ((p ≡ 0) × (h : Header) × (es : List Entry) × (fs : List Entry) × (cs : List Command) × (k : ℕ) × (TwoFilesSay h es fs cs k) × (max_text < length text))
  refusal_15_of_draw_two = two-drawing.row_15 size s t control text room

  refusal_16_of_draw_two : (p : ℕ) →
      TwoDraws (draw-is.Refused (refusal line_too_wide p)) ↔
      ((p ≡ 0) × (h : Header) × (es : List Entry) × (fs : List Entry) × (cs : List Command) × (k : ℕ) × (TwoFilesSay h es fs cs k) × (length text ≤ max_text) × (max_line_width < (two_line_for h es fs cs k).width))
  refusal_16_of_draw_two = two-drawing.row_16 size s t control text room

  -- 9: the scratch, or else, behind all others, the output, Height rows of the width and an LF each.
  refusal_9_of_draw_two : (p : ℕ) →
      TwoDraws (draw-is.Refused (refusal area_too_small p)) ↔
      ((p ≡ 0) ×
      ((size < min_scratch) ⊎
      ((h : Header) × (es : List Entry) × (fs : List Entry) × (cs : List Command) × (k : ℕ) × (TwoFilesSay h es fs cs k) ×
      (length text ≤ max_text) × ((two_line_for h es fs cs k).width ≤ max_line_width) × (room < h.height * ((two_line_for h es fs cs k).width + 1)))))
  refusal_9_of_draw_two = two-drawing.row_9 size s t control text room

  -- Otherwise the width, and the counts of Q-2 by this look-up.
  draw_two_otherwise : (w : ℕ) (n : Counts) →
      TwoDraws (draw-is.Drawn w n) ↔
      ((h : Header) × (es : List Entry) × (fs : List Entry) × (cs : List Command) × (k : ℕ) × (TwoFilesSay h es fs cs k) × (length text ≤ max_text) × ((two_line_for h es fs cs k).width ≤ max_line_width) ×
      (h.height * ((two_line_for h es fs cs k).width + 1) ≤ room) × (w ≡ (two_line_for h es fs cs k).width) × (n ≡ counts_of (two_source s t es fs) (text_codes cs k text)))
  draw_two_otherwise = two-drawing.row_drawn size s t control text room

  -- "A refusal fills every lent writable area with zeros"; the scratch is zeros after every answer by the call's contract.
  draw_two_wiped : (r : Refusal) → TwoDraws (draw-is.Refused r) → padded (bytes_of two_drawn room) room ≡ zeros room
  draw_two_wiped = wiping.lined_wiped two_drawn room

-- With the same font twice every answer is that font's: each row, told to stand in the first of the two, and each drawing.
same_font_twice_row : (s : List ℕ) (c : Code) (r : ℕ) → row_of_two s s c r ≡ in_first (row_request s c r)
same_font_twice_row = two-fonts.twice_row

same_font_twice : (size : ℕ) (s control text : List ℕ) → two_lined size s s control text ≡ draw_lined size s control text
same_font_twice = two-fonts.twice_draws

-- A text whose codes the first font has is drawn as by the first alone, whatever legal second font stands behind.
first_font_alone : (size : ℕ) (s t : List ℕ) (h : Header) (es fs : List Entry) → BothSay s t h es fs → (control text : List ℕ) (cs : List Command) (k : ℕ) → flc.control control ≡ flc.reads cs k →
    EachHas es (text_codes cs k text) → two_lined size s t control text ≡ draw_lined size s control text
first_font_alone = two-fonts.covered_draws

-- ================================================================ document 02, Q-8

-- The check of a FIGure and a list of overlaps for a text, where neither 9, a refusal of either file, nor 15 is given (`CheckRead` has what the files say, and that the text is short enough): the
-- characters that are drawn, the line of the text, its right overlaps and its drawing are those of `draw`.
module _ (size : ℕ) (s control text : List ℕ) where
  abbrev characters_drawn_lem : CheckRead size s control text → List Block
  characters_drawn_lem x = characters_of (font_source s x.characters) (text_codes x.commands x.stages text)

  abbrev line_drawn : CheckRead size s control text → Block
  line_drawn x = line_of (mode_of x.header) x.header.height (font_source s x.characters) (text_codes x.commands x.stages text)

  abbrev right_overlaps : CheckRead size s control text → List ℕ
  right_overlaps x = after_first (trace_of (mode_of x.header) x.header.height (font_source s x.characters) (text_codes x.commands x.stages text)).overlaps

  abbrev its_drawing : CheckRead size s control text → List ℕ
  its_drawing x = shown x.header.hardblank.0 x.header.height (line_drawn x)

  -- "The list has one overlap for each drawn character after the first."
  one_overlap_for_each_after_the_first : (x : CheckRead size s control text) → length (right_overlaps x) ≡ length (characters_drawn_lem x) - 1
  one_overlap_for_each_after_the_first = check-answers.right_many size s control text

  -- "Each overlap is the one of demand 3": that of the line so far, the first character and k more, and the next character.
  each_overlap_is_that_of_the_join : (x : CheckRead size s control text) (c : Block) (cs : List Block) → characters_drawn_lem x ≡ c ∷ cs → (k : ℕ) → k < length cs →
      get_or (right_overlaps x) k 0 ≡ overlap_with (mode_of x.header) x.header.height (line_from (mode_of x.header) x.header.height empty (c ∷ take k cs)) (get_or cs k empty)
  each_overlap_is_that_of_the_join = check-answers.right_each size s control text

  module _ (overlaps figure : List ℕ) where
    abbrev Checks : Result Verdict Refusal → Type 0
    Checks a = drawing_checked size s control text overlaps figure ≡ a

    -- "Accept exactly if each overlap is the one of demand 3 and the bytes are the drawing."
    accepted_exactly_if : Checks (Ok check-is.Accepted) ↔ ((x : CheckRead size s control text) × ((line_drawn x).width ≤ max_line_width) × (overlaps ≡ right_overlaps x) × (figure ≡ its_drawing x))
    accepted_exactly_if = check-answers.accepted size s control text overlaps figure

    -- "The check names the first wrong overlap, else the first wrong byte; where one FIGure is the start of the other, that is the shorter one's end."
    first_wrong_overlap : (k : ℕ) → Checks (Ok (check-is.WrongOverlap k)) ↔ ((x : CheckRead size s control text) × ((line_drawn x).width ≤ max_line_width) × FirstWrong k (right_overlaps x) overlaps)
    first_wrong_overlap = check-answers.wrong_overlap size s control text overlaps figure

    first_wrong_byte : (p : ℕ) → Checks (Ok (check-is.WrongByte p)) ↔ ((x : CheckRead size s control text) × ((line_drawn x).width ≤ max_line_width) × (overlaps ≡ right_overlaps x) × PartsFirst p (its_drawing x) figure)
    first_wrong_byte = check-answers.wrong_byte size s control text overlaps figure

    -- "Refusals: the drawing's, first; a list of the wrong length is 25."
    font_refusals_of_check_drawing : (r : Refusal) → number_of r.reason ≤ number_of too_many_characters → Checks (Err r) ↔ ((min_scratch ≤ size) × (reading s ≡ refuses r))
    font_refusals_of_check_drawing = check-answers.row_font size s control text overlaps figure

    refusal_9_of_check_drawing : (p : ℕ) → Checks (Err (refusal area_too_small p)) ↔ ((p ≡ 0) × (size < min_scratch))
    refusal_9_of_check_drawing = check-answers.row_9 size s control text overlaps figure

    control_refusals_of_check_drawing : (r : Refusal) → number_of control_file_too_long ≤ number_of r.reason → number_of r.reason ≤ number_of too_many_commands →
        Checks (Err r) ↔ ((min_scratch ≤ size) × (h : Header) × (es : List Entry) × (reading s ≡ says h es) × (flc.control control ≡ flc.refuses r))
    control_refusals_of_check_drawing = check-answers.row-control size s control text overlaps figure

    refusal_15_of_check_drawing : (p : ℕ) →
        Checks (Err (refusal text_too_long p)) ↔
        ((p ≡ 0) × (min_scratch ≤ size) × (h : Header) × (es : List Entry) × (reading s ≡ says h es) × (cs : List Command) × (k : ℕ) × (flc.control control ≡ flc.reads cs k) × (max_text < length text))
    refusal_15_of_check_drawing = check-answers.row_15 size s control text overlaps figure

    refusal_16_of_check_drawing : (p : ℕ) → Checks (Err (refusal line_too_wide p)) ↔ ((p ≡ 0) × (x : CheckRead size s control text) × (max_line_width < (line_drawn x).width))
    refusal_16_of_check_drawing = check-answers.row_16 size s control text overlaps figure

    refusal_25_of_check_drawing : (p : ℕ) → Checks (Err (refusal wrong_length p)) ↔ ((p ≡ 0) × (x : CheckRead size s control text) × ((line_drawn x).width ≤ max_line_width) × (length overlaps ≡ length (right_overlaps x) → ⊥))
    refusal_25_of_check_drawing = check-answers.row_25 size s control text overlaps figure

  -- What `draw` puts out, with the overlaps of its trace, is accepted.
  own_drawing_accepted : (room w : ℕ) (n : Counts) → lined_answer (draw_lined size s control text) room ≡ draw-is.Drawn w n →
      (x : CheckRead size s control text) × (drawing_checked size s control text (right_overlaps x) (bytes_of (draw_lined size s control text) room) ≡ Ok check-is.Accepted)
  own_drawing_accepted = check-answers.own_drawing size s control text
