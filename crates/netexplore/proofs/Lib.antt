mod Statuses
mod Given
mod Printing
mod Witnesses
