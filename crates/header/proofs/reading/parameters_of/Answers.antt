-- `header::reading::parameters_of` meets its contract: five numbers are required, and three more may follow.
use mathlib.Core.Path.{◌∙◌}
use borrow.Author.Rules.{rules}
use Rattle.std.specs.Prelude.{Some}
use Rattle.header.proofs.ParameterLaws.{Next, no_height, no_baseline, no_length, no_layout, no_comments, all_named}
use Rattle.header.proofs.reading.parameters_of.Goals.{In_ok-height, In_ok-baseline, In_ok-max_length, In_ok-old_layout, In_ok-comment_lines}
use Rattle.header.proofs.reading.parameters_of.Goals as goal

-- the five numbers, where they are there
first : (c : In_ok-height) → Next c.args.t.now (Some c.in_ok-height.height) c.next_number.new.text.now
first c = record { number = c.in_ok-height.ensures.number; rest = c.in_ok-height.ensures.rest }

second : (c : In_ok-baseline) → Next c.next_number.new.text.now (Some c.in_ok-baseline.baseline) c.next_number-2.new.text.now
second c = record { number = c.in_ok-baseline.ensures.number; rest = c.in_ok-baseline.ensures.rest }

third : (c : In_ok-max_length) → Next c.next_number-2.new.text.now (Some c.in_ok-max_length.max_length) c.next_number-3.new.text.now
third c = record { number = c.in_ok-max_length.ensures.number; rest = c.in_ok-max_length.ensures.rest }

fourth : (c : In_ok-old_layout) → Next c.next_number-3.new.text.now (Some c.in_ok-old_layout.old_layout) c.next_number-4.new.text.now
fourth c = record { number = c.in_ok-old_layout.ensures.number; rest = c.in_ok-old_layout.ensures.rest }

fifth : (c : In_ok-comment_lines) → Next c.next_number-4.new.text.now (Some c.in_ok-comment_lines.comment_lines) c.next_number-5.new.text.now
fifth c = record { number = c.in_ok-comment_lines.ensures.number; rest = c.in_ok-comment_lines.ensures.rest }

pub returns-in_err-height : goal.returns-in_err-height
returns-in_err-height c =
    c.from_residual.ensures ∙
    no_height c.args.t.now _ (record { number = c.in_err-height.ensures.number; rest = c.in_err-height.ensures.rest })

pub returns-in_err-baseline : goal.returns-in_err-baseline
returns-in_err-baseline c =
    c.from_residual-in_err-baseline.ensures ∙
    no_baseline c.args.t.now _ _ (first (goal.at.returns-in_err-baseline c).In_ok-height) _ (record { number = c.in_err-baseline.ensures.number; rest = c.in_err-baseline.ensures.rest })

pub returns-in_err-max_length : goal.returns-in_err-max_length
returns-in_err-max_length c =
    c.from_residual-in_err-max_length.ensures ∙
    no_length c.args.t.now _ _ (first (goal.at.returns-in_err-max_length c).In_ok-height) _ _ (second (goal.at.returns-in_err-max_length c).In_ok-baseline) _ (record { number = c.in_err-max_length.ensures.number; rest = c.in_err-max_length.ensures.rest })

pub returns-in_err-old_layout : goal.returns-in_err-old_layout
returns-in_err-old_layout c =
    c.from_residual-in_err-old_layout.ensures ∙
    no_layout c.args.t.now _ _ (first (goal.at.returns-in_err-old_layout c).In_ok-height) _ _ (second (goal.at.returns-in_err-old_layout c).In_ok-baseline) _ _ (third (goal.at.returns-in_err-old_layout c).In_ok-max_length) _ (record { number = c.in_err-old_layout.ensures.number; rest = c.in_err-old_layout.ensures.rest })

pub returns-in_err-comment_lines : goal.returns-in_err-comment_lines
returns-in_err-comment_lines c =
    c.from_residual-in_err-comment_lines.ensures ∙
    no_comments c.args.t.now _ _ (first (goal.at.returns-in_err-comment_lines c).In_ok-height) _ _ (second (goal.at.returns-in_err-comment_lines c).In_ok-baseline) _ _ (third (goal.at.returns-in_err-comment_lines c).In_ok-max_length) _ _ (fourth (goal.at.returns-in_err-comment_lines c).In_ok-old_layout) _ (record { number = c.in_err-comment_lines.ensures.number; rest = c.in_err-comment_lines.ensures.rest })

pub returns : goal.returns
returns c =
    search rules ∙
    all_named c.args.t.now _ _ (first (goal.at.returns c).In_ok-height) _ _ (second (goal.at.returns c).In_ok-baseline) _ _ (third (goal.at.returns c).In_ok-max_length) _ _ (fourth (goal.at.returns c).In_ok-old_layout) _ _ (fifth (goal.at.returns c).In_ok-comment_lines)
    c.next_number-print_direction.result c.next_number-full_layout.result c.next_number-codetag_count.result _ _ _
    (record { number = c.next_number-print_direction.ensures.number; rest = c.next_number-print_direction.ensures.rest }) (record { number = c.next_number-full_layout.ensures.number; rest = c.next_number-full_layout.ensures.rest }) (record { number = c.next_number-codetag_count.ensures.number; rest = c.next_number-codetag_count.ensures.rest })
