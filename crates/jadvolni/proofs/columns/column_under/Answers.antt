use Rattle.std.proofs.Common.{◌≡◌, true, map, ap, ap₂, sym, ◌∙◌, rules, Ok, Err}
use Rattle.jadvolni.specs.Columns.{effect_of_column}
use Rattle.jadvolni.specs.FormatFields.{are_known}
use Rattle.jadvolni.proofs.ColumnArrays.{read}
use Rattle.jadvolni.proofs.columns.column_under.Goals as goal

pub returns-in-Ok : goal.returns-in-Ok
returns-in-Ok g c =
    let known : are_known c.args.fields.now ≡ true = search rules in
    let e = c.in-Ok.ensures in
    read g.T.Integer.number c.args.fields.now c.format.result g.T.Integer.TYPE c.args.separator
    c.args.text.now c.args.values.now c.read_column.new.values (Ok c.in-Ok.column) known
    c.format.ensures e.answer e.numbers e.rest

pub returns-in-Err-InvalidFormat : goal.returns-in-Err-InvalidFormat
returns-in-Err-InvalidFormat g c =
    let known : are_known c.args.fields.now ≡ true = search rules in
    let at = c.in-Err-InvalidFormat in
    let now = map g.T.Integer.number c.read_column.new.values in
    ap₂ (λ status place. record { status = status; place = place; count = 0; numbers = now })
    c.of_fault.ensures.status c.of_fault.ensures.place
    ∙ ap (λ e. effect_of_column (Err e) now) (sym at.field-0-is)
    ∙ read g.T.Integer.number c.args.fields.now c.format.result g.T.Integer.TYPE c.args.separator
    c.args.text.now c.args.values.now c.read_column.new.values (Err at.field-0) known
    c.format.ensures at.ensures.answer at.ensures.numbers at.ensures.rest

pub returns-in-Err-InvalidField : goal.returns-in-Err-InvalidField
returns-in-Err-InvalidField g c =
    let known : are_known c.args.fields.now ≡ true = search rules in
    let at = c.in-Err-InvalidField in
    let of_fault = c.of_fault-in-Err-InvalidField.ensures in
    let now = map g.T.Integer.number c.read_column.new.values in
    ap₂ (λ status place. record { status = status; place = place; count = at.field; numbers = now })
    of_fault.status of_fault.place
    ∙ ap (λ e. effect_of_column (Err e) now) (sym at.field-0-is)
    ∙ read g.T.Integer.number c.args.fields.now c.format.result g.T.Integer.TYPE c.args.separator
    c.args.text.now c.args.values.now c.read_column.new.values (Err at.field-0) known
    c.format.ensures at.ensures.answer at.ensures.numbers at.ensures.rest
