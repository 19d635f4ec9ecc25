use Rattle.tree_laws.proofs.TableTrees.{IsTypedTable, table_typed}
use Rattle.tree_laws.proofs.law.a_table_is_a_tree.Goals as goal

pub returns : goal.returns
returns c = λ cols at owns root rows t. let y : IsTypedTable cols at owns root rows = table_typed cols at owns root rows t in (y.pages, y.read, y.tree)
