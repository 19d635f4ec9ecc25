use Rattle.std.proofs.Common.{ℕ, ◌<◌, ◌^◌, List, length}
use Rattle.page_base.specs.declared.numbers.PageId.{PageId}
use Rattle.page_base.specs.Name.{IsLowName}
use Rattle.byte_fields.specs.Numbers.{number}
use Rattle.byte_fields.specs.Fields.{sized, short, address}
use Rattle.byte_fields.specs.Reading.{byte_at, number_at, address_at, sized_at, short_at, name_at}
use Rattle.byte_fields.proofs.FieldLemmas.{spelled, byte, IsField-byte, IsField-number, IsField-address, IsField-sized, IsField-short, IsField-name}
use Rattle.byte_fields.proofs.law.fields_are_read.Goals as goal

pub returns-clause-byte : goal.returns-clause-byte
returns-clause-byte c = spelled (λ b. b < 256) byte byte_at IsField-byte

pub returns-clause-number : goal.returns-clause-number
returns-clause-number c = λ size. spelled (λ n. n < 256 ^ size) (number size) (number_at size) (IsField-number size)

pub returns-clause-address : goal.returns-clause-address
returns-clause-address c = spelled (λ (p : PageId). p.page < 2 ^ 32) address address_at IsField-address

pub returns-clause-text : goal.returns-clause-text
returns-clause-text c = spelled (λ (text : List ℕ). length text < 2 ^ 16) sized sized_at IsField-sized

pub returns-clause-short_text : goal.returns-clause-short_text
returns-clause-short_text c = spelled (λ (text : List ℕ). length text < 256) short short_at IsField-short

pub returns-clause-name : goal.returns-clause-name
returns-clause-name c = spelled IsLowName short name_at IsField-name
