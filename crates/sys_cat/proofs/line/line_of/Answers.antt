use Rattle.std.proofs.Common.{◌∙◌, ◌≡◌, length, sym}
use Rattle.page_base.specs.declared.value.Value.TheVariants.{Null}
use Rattle.sys_cat.specs.Lines.{text_bytes}
use Rattle.sys_cat.proofs.LineLemmas.{row_is}
use Rattle.sys_cat.proofs.line.line_of.Goals as goal

pub returns : goal.returns
returns c =
    let six : length c.args.row.now ≡ 6 = sym c.len.ensures ∙ c.if-len-ne6.false in (
      record { name = c.in_ok-name.ensures.1; text = c.in_ok-text.ensures.1; ord = c.in_ok-ord.ensures.1; a = c.in_ok-a.ensures.1; b = c.in_ok-b.ensures.1; c = c.in_ok-c.ensures.1 },
      row_is c.args.row.now c.in_ok-name.name (text_bytes c.in_ok-text.text) c.in_ok-ord.ord c.in_ok-a.a c.in_ok-b.b c.in_ok-c.c six
          (c.at.ensures.value Null ∙ c.in_ok-name.ensures.0) (c.at-2.ensures.value Null ∙ c.in_ok-ord.ensures.0) (c.at-3.ensures.value Null ∙ c.in_ok-text.ensures.0) (c.at-4.ensures.value Null ∙ c.in_ok-a.ensures.0) (c.at-5.ensures.value Null ∙ c.in_ok-b.ensures.0)
          (c.at-6.ensures.value Null ∙ c.in_ok-c.ensures.0),
    )
