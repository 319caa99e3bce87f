-- `commands::line_kind` meets its contract: one law for each way to return.
use mathlib.Core.Path.{◌≡◌, sym, ◌∙◌}
use borrow.Author.Rules.{rules}
use borrow.Author.Tests.{tests}
use Rattle.std.proofs.lemmas.Iterator.{YieldsList-from_slice}
use Rattle.std.proofs.lemmas.Iterator.Search.{all_from_yields_List}
use Rattle.ground.specs.Runs.{all}
use Rattle.lines.specs.Words.{is_blank}
use Rattle.lines.proofs.WordLaws.{all_is}
use Rattle.commands.proofs.KindLaws.{kind_blank, kind_comment, kind_extended, kind_stage, kind_translation, kind_numbers}
use Rattle.commands.proofs.line_kind.Goals.{After-all}
use Rattle.commands.proofs.line_kind.Goals as goal

-- what the test of the whole line answers
blanks : (c : After-all) → c.all.result ≡ all is_blank c.args.t.now
blanks c = all_from_yields_List is_blank _ _ _ c.all.ensures.ran (YieldsList-from_slice c.args.t.now cc) (λ x b q k. search (rules, tests)) ∙ all_is is_blank c.args.t.now

pub returns-then-all : goal.returns-then-all
returns-then-all c = kind_blank _ (sym (blanks (goal.at.returns-then-all c).After-all) ∙ c.if-all.true)

pub returns-in-35 : goal.returns-in-35
returns-in-35 c = kind_comment _ (sym (blanks (goal.at.returns-in-35 c).After-all) ∙ c.if-all.false) c.in-35.is

pub returns-in_default : goal.returns-in_default
returns-in_default c = kind_extended _ (sym (blanks (goal.at.returns-in_default c).After-all) ∙ c.if-all.false) (search (rules, tests)) (sym c.is_extended.ensures ∙ c.if-is_extended.true)

pub returns-in-102 : goal.returns-in-102
returns-in-102 c = kind_stage _ (sym (blanks (goal.at.returns-in-102 c).After-all) ∙ c.if-all.false) (search (rules, tests)) (sym c.is_extended.ensures ∙ c.if-is_extended.false) c.in-102.is

pub returns-in-116 : goal.returns-in-116
returns-in-116 c = kind_translation _ (sym (blanks (goal.at.returns-in-116 c).After-all) ∙ c.if-all.false) (search (rules, tests)) (sym c.is_extended.ensures ∙ c.if-is_extended.false) (search (rules, tests)) _ c.in-116.is c.translation_of.ensures

pub returns-in_default-2 : goal.returns-in_default-2
returns-in_default-2 c = kind_numbers _ (sym (blanks (goal.at.returns-in_default-2 c).After-all) ∙ c.if-all.false) (search (rules, tests)) (sym c.is_extended.ensures ∙ c.if-is_extended.false) (search (rules, tests)) _ (search (rules, tests)) c.command_of.ensures
