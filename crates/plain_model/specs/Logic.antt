-- AND, OR and NOT of three-valued logic.
use Rattle.page_base.specs.declared.value.Truth.{Truth}
use Rattle.page_base.specs.declared.value.Truth.TheVariants.{True, False, Unknown}

-- FALSE where one is FALSE, TRUE where both are TRUE, else UNKNOWN
abbrev pub and3 : Truth → Truth → Truth
and3 True b = b
and3 False _ = False
and3 Unknown False = False
and3 Unknown True = Unknown
and3 Unknown Unknown = Unknown

-- TRUE where one is TRUE, FALSE where both are FALSE, else UNKNOWN
abbrev pub or3 : Truth → Truth → Truth
or3 False b = b
or3 True _ = True
or3 Unknown True = True
or3 Unknown False = Unknown
or3 Unknown Unknown = Unknown

-- TRUE and FALSE are swapped, UNKNOWN stays
abbrev pub not3 : Truth → Truth
not3 True = False
not3 False = True
not3 Unknown = Unknown
